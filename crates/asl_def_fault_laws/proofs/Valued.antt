-- The faults that a value has by itself, in terms of the language.
use Rattle.std.proofs.Common.{◌≡◌, ◌⊎◌, ℕ, true, false, List, [], ◌∷◌, ◌++◌, inl, inr, refl, sym, ap, subst, ◌∙◌}
use Rattle.std.specs.Prelude.{Some, codes}
use Rattle.asl_json_data.specs.Data.{Data}
use Rattle.asl_json.specs.Meaning.{value_at}
use Rattle.asl_def_schema.specs.declared.fault.FaultKind.TheVariants as kind
use Rattle.asl_def_schema.specs.declared.fault.Step.{Step}
use Rattle.asl_def_schema.specs.declared.sort.Sort.TheVariants as sort
use Rattle.asl_def_schema.specs.declared.sort.Form.TheVariants as form
use Rattle.asl_def_schema.specs.Demands.{is_of}
use Rattle.asl_def_schema.specs.Members.{kind_named}
use Rattle.asl_def_schema.specs.Claims.{outside, is_name}
use Rattle.asl_def_fault_laws.specs.Parts.{Part, part, whole, part_at}
use Rattle.asl_def_fault_laws.specs.Faults.{HasFault}
use Rattle.asl_def_fault_laws.specs.Values.{Stands, IsNoObject, IsOfWrongType, IsOutside, IsOutOfRange, of_a_name, of_a_value, IsNoPath, IsNoCall}
use Rattle.asl_def_fault_laws.proofs.Reaching.{spot_at}
use Rattle.asl_def_fault_laws.proofs.Around.{cut}
use Rattle.asl_def_fault_laws.proofs.Standing.{IsWrong, stands_out, stands_in, part_is, at_root, held_member, step_member}
use Rattle.asl_def_fault_laws.proofs.Tables.{is_definition, definition_not, no_list_of_definitions, is_state, no_list_of_states}

-- ---- only the whole is a definition

inner_sort : (d : Data) (t : Step) (ts : List Step) (to : Part) → part_at (whole d) (t ∷ ts) ≡ Some to → to.sort ≡ sort.Definition → ⊥
inner_sort d t ts to e s =
    let c = cut t ts in
    let led : part_at (whole d) (c.outer ++ c.own ∷ []) ≡ Some to = subst (λ (us : List Step). part_at (whole d) us ≡ Some to) c.is e in
    let m = step_member is_definition no_list_of_definitions d c.outer c.own to led (ap is_definition s) in
    absurd (let f : true ≡ false = ap is_definition (sym s) ∙ ap (λ (x : Part). is_definition x.sort) m.is ∙ definition_not m.outer_sort (kind_named (value_at (codes "Type") m.members)) c.own.name in cc)

root_only : (d : Data) (place : List Step) (to : Part) → part_at (whole d) place ≡ Some to → to.sort ≡ sort.Definition → place ≡ []
root_only d [] to e s = refl
root_only d (t ∷ ts) to e s = absurd (inner_sort d t ts to e s)

not_root : (d : Data) (place : List Step) (to : Part) → part_at (whole d) place ≡ Some to → (place ≡ [] → ⊥) → to.sort ≡ sort.Definition → ⊥
not_root d place to e h s = h (root_only d place to e s)

-- ---- F2

pub no_object_out : (d : Data) (place : List Step) → HasFault d kind.NotObject place → IsNoObject d place
no_object_out d place h =
    let r = stands_out kind.NotObject d place refl refl h in
    let place_is = root_only d place r.to r.leads r.wrong.0 in
    let root : r.to ≡ whole d = at_root d r.to (subst (λ (us : List Step). part_at (whole d) us ≡ Some r.to) place_is r.leads) in
    record { place_is = place_is; no_object = subst (λ (x : Part). is_of form.Object x.value ≡ false) root r.wrong.1 }

pub no_object_in : (d : Data) (place : List Step) → IsNoObject d place → HasFault d kind.NotObject place
no_object_in d place h = subst (HasFault d kind.NotObject) (sym h.place_is) (stands_in kind.NotObject d [] (whole d) refl (refl, h.no_object))

-- ---- F6

pub wrong_type_out : (d : Data) (place : List Step) → HasFault d kind.WrongType place → IsOfWrongType d place
wrong_type_out d place h =
    let r = stands_out kind.WrongType d place refl refl h in
    record { inside = inside r; value = record { found = r.to; stands = r.leads; so = r.wrong.1 } }
  where
    inside : (r : IsWrong kind.WrongType d place) → place ≡ [] → ⊥
    inside r e =
        let root : r.to ≡ whole d = at_root d r.to (subst (λ (us : List Step). part_at (whole d) us ≡ Some r.to) e r.leads) in
        r.wrong.0 (ap (λ (x : Part). x.sort) root)

pub wrong_type_in : (d : Data) (place : List Step) → IsOfWrongType d place → HasFault d kind.WrongType place
wrong_type_in d place h = stands_in kind.WrongType d place h.value.found h.value.stands (not_root d place h.value.found h.value.stands h.inside, h.value.so)

-- ---- F7

pub range_out : (d : Data) (place : List Step) → HasFault d kind.Range place → IsOutOfRange d place
range_out d place h = by (stands_out kind.Range d place refl refl h)
  where
    named : (to : Part) → part_at (whole d) place ≡ Some to → to.sort ≡ sort.State → is_name (spot_at outside (whole d) place).key ≡ false → IsOutOfRange d place
    named to e s n =
        let r = held_member is_state refl no_list_of_states d place to e (ap is_state s) in
        let key : (spot_at outside (whole d) place).key ≡ r.own.name = ap (λ (us : List Step). (spot_at outside (whole d) us).key) r.place_is ∙ r.member.key in
        of_a_name r.own.name (record { outer = r.outer; own = r.own; place_is = r.place_is; called = refl; value = to.value; stands = e ∙ ap (λ (x : Part). Some x) (part_is to sort.State to.value s refl) })
        (subst (λ (k : List ℕ). is_name k ≡ false) key n)

    told : (to : Part) → part_at (whole d) place ≡ Some to → ((to.sort ≡ sort.State) × (is_name (spot_at outside (whole d) place).key ≡ false)) ⊎ IsOutside to.sort to.value → IsOutOfRange d place
    told to e (inl u) = named to e u.0 u.1
    told to e (inr u) = of_a_value (record { found = to; stands = e; so = u })

    by : IsWrong kind.Range d place → IsOutOfRange d place
    by r = told r.to r.leads r.wrong

pub range_in : (d : Data) (place : List Step) → IsOutOfRange d place → HasFault d kind.Range place
range_in d place (of_a_name name s n) =
    let to = part sort.State s.value in
    let led : part_at (whole d) (s.outer ++ s.own ∷ []) ≡ Some to = subst (λ (us : List Step). part_at (whole d) us ≡ Some to) s.place_is s.stands in
    let m = step_member is_state no_list_of_states d s.outer s.own to led refl in
    let key : (spot_at outside (whole d) place).key ≡ name = ap (λ (us : List Step). (spot_at outside (whole d) us).key) s.place_is ∙ m.key ∙ s.called in
    stands_in kind.Range d place to s.stands (inl (refl, subst (λ (k : List ℕ). is_name k ≡ false) (sym key) n))
range_in d place (of_a_value v) = stands_in kind.Range d place v.found v.stands (inr v.so)

-- ---- F13 and F14

pub no_path_out : (d : Data) (place : List Step) → HasFault d kind.Path place → Stands IsNoPath d place
no_path_out d place h =
    let r = stands_out kind.Path d place refl refl h in
    record { found = r.to; stands = r.leads; so = r.wrong }

pub no_path_in : (d : Data) (place : List Step) → Stands IsNoPath d place → HasFault d kind.Path place
no_path_in d place h = stands_in kind.Path d place h.found h.stands h.so

pub no_call_out : (d : Data) (place : List Step) → HasFault d kind.Expression place → Stands IsNoCall d place
no_call_out d place h =
    let r = stands_out kind.Expression d place refl refl h in
    record { found = r.to; stands = r.leads; so = r.wrong }

pub no_call_in : (d : Data) (place : List Step) → Stands IsNoCall d place → HasFault d kind.Expression place
no_call_in d place h = stands_in kind.Expression d place h.found h.stands h.so
