-- What stands at a place that has a fault.
use Rattle.std.proofs.Common.{◌≡◌, ◌⊎◌, ℕ, Bool, true, false, List, [], ◌∷◌, ◌++◌, inl, inr, sym, ap, subst, ◌∙◌}
use Rattle.std.specs.Prelude.{Some}
use Rattle.asl_json_data.specs.Data.{Data, list, dict, Pairs}
use Rattle.asl_def_schema.specs.declared.fault.FaultKind.{FaultKind}
use Rattle.asl_def_schema.specs.declared.fault.FaultKind.TheVariants as kind
use Rattle.asl_def_schema.specs.declared.fault.Step.{Step}
use Rattle.asl_def_schema.specs.declared.sort.Sort.{Sort}
use Rattle.asl_def_schema.specs.declared.sort.Sort.TheVariants as sort
use Rattle.asl_def_schema.specs.Members.{shape_in, sort_at, item_sort}
use Rattle.asl_def_schema.specs.Claims.{Spot, claims, outside, demands}
use Rattle.asl_def_schema.specs.States.{Named, states_in, unique_claims}
use Rattle.asl_def_fault_laws.specs.Parts.{Part, part, whole, member_at, next, part_at}
use Rattle.asl_def_fault_laws.specs.Faults.{One, IsFault, HasFault}
use Rattle.asl_def_fault_laws.proofs.Ones.{one_left, one_split, Breaks}
use Rattle.asl_def_fault_laws.proofs.Reaching.{spot_in, spot_at, item_found, member_found, append_none, Leaves, root_out, root_in, IsReached, IsLacked, reach_out, reach_in}
use Rattle.asl_def_fault_laws.proofs.Around.{cut, last_step}
use Rattle.asl_def_fault_laws.proofs.Breaking.{Wrong, wrong_out, wrong_in}

-- ---- claims on names of states are of a kind of their own

abbrev pub is_unique : FaultKind → Bool
is_unique kind.DuplicateState = true
is_unique k = false

unique_none : (k : FaultKind) (place : List Step) (seen : List (List ℕ)) (ns : List Named) → is_unique k ≡ false → One (IsFault k place) (unique_claims seen ns) → ⊥
unique_none k place seen [] e h = absurd h
unique_none k place seen (n ∷ ns) e (inl h) = absurd (let f : true ≡ is_unique k = ap is_unique h.kind in cc)
unique_none k place seen (n ∷ ns) e (inr h) = unique_none k place (seen ++ n.0 ∷ []) ns e h

pub claimed : (k : FaultKind) (d : Data) (place : List Step) → is_unique k ≡ false → HasFault d k place → One (IsFault k place) (claims outside sort.Definition d)
claimed k d place e h = by (one_split (IsFault k place) (claims outside sort.Definition d) (unique_claims [] (states_in sort.Definition d)) h)
  where
    by : One (IsFault k place) (claims outside sort.Definition d) ⊎ One (IsFault k place) (unique_claims [] (states_in sort.Definition d)) → One (IsFault k place) (claims outside sort.Definition d)
    by (inl u) = u
    by (inr u) = absurd (unique_none k place [] (states_in sort.Definition d) e u)

-- ---- a fault that a value has by itself

-- a kind of fault of an object without some member
abbrev pub is_lacking : FaultKind → Bool
is_lacking kind.Missing = true
is_lacking kind.Neither = true
is_lacking k = false

pub record IsWrong (k : FaultKind) (d : Data) (place : List Step) : Type 0 where
  pub to : Part
  pub leads : part_at (whole d) place ≡ Some to
  pub wrong : Wrong k (spot_at outside (whole d) place) to.sort to.value

-- of the claims on values
pub own_out : (k : FaultKind) (d : Data) (place : List Step) → is_lacking k ≡ false → One (IsFault k place) (claims outside sort.Definition d) → IsWrong k d place
own_out k d place e h = by (reach_out k place outside (whole d) h)
  where
    own : (r : IsReached k place outside (whole d)) → One (Breaks k) (demands (spot_at outside (whole d) place) r.to.sort r.to.value) ⊎ Leaves k r.to.sort r.to.value → IsWrong k d place
    own r (inl u) = record { to = r.to; leads = r.leads; wrong = wrong_out k (spot_at outside (whole d) place) r.to.sort r.to.value u }
    own r (inr u) = absurd (let f : true ≡ is_lacking k = ap is_lacking u.kind in cc)

    by : IsReached k place outside (whole d) ⊎ IsLacked k place (whole d) → IsWrong k d place
    by (inl r) = own r (root_out k (spot_at outside (whole d) place) r.to.sort r.to.value r.fault)
    by (inr r) = absurd (let f : true ≡ is_lacking k = ap is_lacking r.lacks.row.kind in cc)

pub stands_out : (k : FaultKind) (d : Data) (place : List Step) → is_unique k ≡ false → is_lacking k ≡ false → HasFault d k place → IsWrong k d place
stands_out k d place e f h = own_out k d place f (claimed k d place e h)

-- of what a place leads to, or further in
pub fault_in : (k : FaultKind) (d : Data) (outer rest : List Step) (to : Part) → part_at (whole d) outer ≡ Some to → One (IsFault k rest) (claims (spot_at outside (whole d) outer) to.sort to.value) → HasFault d k (outer ++ rest)
fault_in k d outer rest to e h = one_left (IsFault k (outer ++ rest)) (claims outside sort.Definition d) (unique_claims [] (states_in sort.Definition d)) (reach_in k outer rest outside (whole d) to e h)

pub root_fault_in : (k : FaultKind) (d : Data) (place : List Step) (to : Part) → part_at (whole d) place ≡ Some to → One (IsFault k []) (claims (spot_at outside (whole d) place) to.sort to.value) → HasFault d k place
root_fault_in k d place to e h = subst (HasFault d k) (append_none place) (fault_in k d place [] to e h)

pub stands_in : (k : FaultKind) (d : Data) (place : List Step) (to : Part) → part_at (whole d) place ≡ Some to → Wrong k (spot_at outside (whole d) place) to.sort to.value → HasFault d k place
stands_in k d place to e h = root_fault_in k d place to e (root_in k (spot_at outside (whole d) place) to.sort to.value (wrong_in k (spot_at outside (whole d) place) to.sort to.value h))

-- a part of these
pub part_is : (x : Part) (s : Sort) (v : Data) → x.sort ≡ s → x.value ≡ v → x ≡ part s v
part_is x s v e f = ap (λ (r : Sort). part r x.value) e ∙ ap (part s) f

pub at_root : (d : Data) (to : Part) → part_at (whole d) [] ≡ Some to → to ≡ whole d
at_root d to e = let f : whole d ≡ to = cc in sym f

-- ---- what stands as a member

-- what the last step to a place leads to is a member
pub record IsAMember (d : Data) (outer : List Step) (own : Step) (to : Part) : Type 0 where
  pub outer_sort : Sort
  pub members : Pairs
  pub object : part_at (whole d) outer ≡ Some (part outer_sort (dict members))
  pub value : Data
  pub there : member_at own.at own.name members ≡ Some value
  pub is : to ≡ part (sort_at (shape_in outer_sort members) own.name) value
  pub key : (spot_at outside (whole d) (outer ++ own ∷ [])).key ≡ own.name

a_member : (f : Sort → Bool) → ((s : Sort) → f (item_sort s) ≡ false) → (d : Data) (outer : List Step) (own : Step) (to : Part) (s : Sort) (v : Data) → part_at (whole d) outer ≡ Some (part s v) → next (part s v) own ≡ Some to → spot_at outside (whole d) (outer ++ own ∷ []) ≡ spot_in (spot_at outside (whole d) outer) s v own to.value → f to.sort ≡ true → IsAMember d outer own to
a_member f no_item d outer own to s (list ds) leads step spot n =
    let r = item_found s ds own to step in
    absurd (let u : true ≡ false = sym n ∙ ap (λ (x : Part). f x.sort) r.is ∙ no_item s in cc)
a_member f no_item d outer own to s (dict ms) leads step spot n =
    let r = member_found s ms own to step in
    record { outer_sort = s; members = ms; object = leads; value = r.value; there = r.there; is = r.is; key = ap (λ (p : Spot). p.key) spot }
a_member f no_item d outer own to s x leads step spot n = absurd cc

pub step_member : (f : Sort → Bool) → ((s : Sort) → f (item_sort s) ≡ false) → (d : Data) (outer : List Step) (own : Step) (to : Part) → part_at (whole d) (outer ++ own ∷ []) ≡ Some to → f to.sort ≡ true → IsAMember d outer own to
step_member f no_item d outer own to e n =
    let l = last_step outer own outside (whole d) to e in
    a_member f no_item d outer own to l.from.sort l.from.value l.leads l.step l.spot n

-- the last step to a place, and what it leads to
pub record IsHeld (d : Data) (place : List Step) (to : Part) : Type 0 where
  pub outer : List Step
  pub own : Step
  pub place_is : place ≡ outer ++ own ∷ []
  pub member : IsAMember d outer own to

pub held_member : (f : Sort → Bool) → f sort.Definition ≡ false → ((s : Sort) → f (item_sort s) ≡ false) → (d : Data) (place : List Step) (to : Part) → part_at (whole d) place ≡ Some to → f to.sort ≡ true → IsHeld d place to
held_member f off no_item d [] to e n = absurd (let u : true ≡ false = sym n ∙ ap (λ (x : Part). f x.sort) (at_root d to e) ∙ off in cc)
held_member f off no_item d (t ∷ ts) to e n =
    let c = cut t ts in
    let led : part_at (whole d) (c.outer ++ c.own ∷ []) ≡ Some to = subst (λ (us : List Step). part_at (whole d) us ≡ Some to) c.is e in
    record { outer = c.outer; own = c.own; place_is = c.is; member = step_member f no_item d c.outer c.own to led n }
