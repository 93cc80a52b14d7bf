-- The faults that depend on what stands around a value, in terms of the language.
use Rattle.std.proofs.Common.{◌≡◌, ◌⊎◌, ℕ, suc, ◌+◌, ◌<◌, ◌≤◌, Bool, true, false, ◌||◌, ◌&&◌, not, List, [], ◌∷◌, ◌++◌, length, inl, inr, refl, sym, ap, subst, ◌∙◌, append_assoc, arith}
use Rattle.std.specs.Prelude.{Option, Some, None, ◌==◌, nat_lt, codes}
use Rattle.std.proofs.lemmas.Bool.Decides.{nat_tests}
use Rattle.asl_json_data.specs.Data.{Data, text, list, dict, Chain, no_items, item, Pairs}
use Rattle.asl_json.specs.Meaning.{value_at}
use Rattle.asl_def_schema.specs.declared.fault.FaultKind.TheVariants as kind
use Rattle.asl_def_schema.specs.declared.fault.Step.{Step}
use Rattle.asl_def_schema.specs.declared.sort.Sort.{Sort}
use Rattle.asl_def_schema.specs.declared.sort.Sort.TheVariants as sort
use Rattle.asl_def_schema.specs.Members.{shape_in, sort_at, kind_named}
use Rattle.asl_def_schema.specs.Claims.{Spot, outside, has_all, is_last, item_count, max_machines, inside, is_object}
use Rattle.asl_def_fault_laws.specs.Parts.{Part, part, whole, item_at, next, part_at, machines_around}
use Rattle.asl_def_fault_laws.specs.Faults.{HasFault}
use Rattle.asl_def_fault_laws.specs.Kinds.{IsLostTarget, IsTooDeep, Named, BothCount, AreRivals, of_a_group, of_a_template, IsRivalled, IsNotLast}
use Rattle.asl_def_fault_laws.proofs.Reaching.{is_end, spot_in, spot_at, item_found, member_found, find_member}
use Rattle.asl_def_fault_laws.proofs.Around.{names_at, level_at, cut, last_step, then_step, not_end, end_not}
use Rattle.asl_def_fault_laws.proofs.Standing.{stands_out, stands_in, part_is, at_root}
use Rattle.asl_def_fault_laws.proofs.Rivals.{rival_out, rival_in}
use Rattle.asl_def_fault_laws.proofs.Tables.{is_policy, is_names, policy_not, names_not, policy_list, no_list_of_names, by_groups, by_template}

-- ---- F10

pub lost_out : (d : Data) (place : List Step) → HasFault d kind.NoTarget place → IsLostTarget d place
lost_out d place h =
    let r = stands_out kind.NoTarget d place refl refl h in
    record {
      name = r.wrong.name;
      target = r.leads ∙ ap (λ (x : Part). Some x) (part_is r.to sort.Target (text r.wrong.name) r.wrong.sort_is r.wrong.value);
      unknown = sym (names_at place outside (whole d) r.to r.wrong.name r.leads refl) ∙ r.wrong.unknown;
    }

pub lost_in : (d : Data) (place : List Step) → IsLostTarget d place → HasFault d kind.NoTarget place
lost_in d place h =
    let to = part sort.Target (text h.name) in
    stands_in kind.NoTarget d place to h.target (record { name = h.name; sort_is = refl; value = refl; unknown = names_at place outside (whole d) to h.name h.target refl ∙ h.unknown })

-- ---- F15

at_least : (n m : ℕ) → nat_lt n m ≡ false → m ≤ n
at_least n m e = grind (arith, nat_tests)

no_less : (n m : ℕ) → m ≤ n → nat_lt n m ≡ false
no_less n m e = grind (arith, nat_tests)

pub deep_out : (d : Data) (place : List Step) → HasFault d kind.Nesting place → IsTooDeep d place
deep_out d place h =
    let r = stands_out kind.Nesting d place refl refl h in
    let count = length (machines_around (whole d) place) in
    let off : nat_lt (0 + count) max_machines ≡ false = sym (level_at place outside (whole d) r.to r.leads) ∙ r.wrong.deep in
    record { machine = r.to; stands = r.leads; inner = r.wrong.inner; deep = let le : max_machines ≤ 0 + count = at_least (0 + count) max_machines off in omega (arith, le) }

pub deep_in : (d : Data) (place : List Step) → IsTooDeep d place → HasFault d kind.Nesting place
deep_in d place h =
    let count = length (machines_around (whole d) place) in
    let le : max_machines ≤ count = h.deep in
    let off : nat_lt (0 + count) max_machines ≡ false = no_less (0 + count) max_machines (omega (arith, le)) in
    stands_in kind.Nesting d place h.machine h.stands (record { inner = h.inner; deep = level_at place outside (whole d) h.machine h.stands ∙ off })

-- ---- F8

rivalled_step : (d : Data) (place outer : List Step) (own : Step) (q : Spot) (s : Sort) (v : Data) (to : Part) → place ≡ outer ++ own ∷ [] → part_at (whole d) outer ≡ Some (part s v) → next (part s v) own ≡ Some to → (spot_in q s v own to.value).doubled ≡ true → IsRivalled d place
rivalled_step d place outer own q s (dict ms) to is leads step e =
    let m = member_found s ms own to step in
    let value : to.value ≡ m.value = ap (λ (x : Part). x.value) m.is in
    let r = rival_out (shape_in s ms) own.at ms own.name to.value e in
    record {
      outer = outer;
      own = own;
      other = r.other;
      place_is = is;
      outer_sort = s;
      members = ms;
      object = leads;
      value = to.value;
      there = m.there ∙ ap (λ (x : Data). Some x) (sym value);
      rival = r.value;
      stands = r.there;
      before = r.before;
      rivals = r.rivals;
    }
rivalled_step d place outer own q s x to is leads step e = absurd cc

rivalled_at : (d : Data) (place : List Step) (to : Part) → part_at (whole d) place ≡ Some to → (spot_at outside (whole d) place).doubled ≡ true → IsRivalled d place
rivalled_at d [] to e h = absurd cc
rivalled_at d (t ∷ ts) to e h =
    let c = cut t ts in
    let led : part_at (whole d) (c.outer ++ c.own ∷ []) ≡ Some to = subst (λ (us : List Step). part_at (whole d) us ≡ Some to) c.is e in
    let l = last_step c.outer c.own outside (whole d) to led in
    let doubled : (spot_at outside (whole d) (c.outer ++ c.own ∷ [])).doubled ≡ true = subst (λ (us : List Step). (spot_at outside (whole d) us).doubled ≡ true) c.is h in
    rivalled_step d (t ∷ ts) c.outer c.own (spot_at outside (whole d) c.outer) l.from.sort l.from.value to c.is l.leads l.step (ap (λ (p : Spot). p.doubled) (sym l.spot) ∙ doubled)

pub rivalled_out : (d : Data) (place : List Step) → HasFault d kind.Both place → IsRivalled d place
rivalled_out d place h =
    let r = stands_out kind.Both d place refl refl h in
    rivalled_at d place r.to r.leads r.wrong

rivals_searched : (s : Sort) (ms : Pairs) (m n : Named) → AreRivals (shape_in s ms) m n → is_object s ≡ true
rivals_searched s ms m n (of_a_group h) = by_groups (BothCount m n) s (kind_named (value_at (codes "Type") ms)) h
rivals_searched s ms m n (of_a_template e h) = by_template s (kind_named (value_at (codes "Type") ms)) e

pub rivalled_in : (d : Data) (place : List Step) → IsRivalled d place → HasFault d kind.Both place
rivalled_in d place h =
    let to = part (sort_at (shape_in h.outer_sort h.members) h.own.name) h.value in
    let led = then_step h.outer h.own (whole d) (part h.outer_sort (dict h.members)) to h.object (find_member h.outer_sort h.members h.own h.value (rivals_searched h.outer_sort h.members (h.own.name, h.value) (h.other.name, h.rival) h.rivals) h.there) in
    let l = last_step h.outer h.own outside (whole d) to led in
    let from : part h.outer_sort (dict h.members) ≡ l.from = (let e : Some (part h.outer_sort (dict h.members)) ≡ Some l.from = sym h.object ∙ l.leads in cc) in
    let doubled = rival_in (shape_in h.outer_sort h.members) h.own.at h.other.at h.members h.own.name h.other.name h.value h.rival h.before h.stands h.rivals in
    let spot : spot_at outside (whole d) (h.outer ++ h.own ∷ []) ≡ spot_in (spot_at outside (whole d) h.outer) h.outer_sort (dict h.members) h.own h.value = l.spot ∙ ap (λ (x : Part). spot_in (spot_at outside (whole d) h.outer) x.sort x.value h.own h.value) (sym from) in
    subst (HasFault d kind.Both) (sym h.place_is) (stands_in kind.Both d (h.outer ++ h.own ∷ []) to led (ap (λ (p : Spot). p.doubled) spot ∙ doubled))

-- ---- F12

record IsInPolicy (s : Sort) (v : Data) : Type 0 where
  members : Pairs
  value : v ≡ dict members
  policy : is_policy s ≡ true

names_from : (s : Sort) (v : Data) (own : Step) (to : Part) → next (part s v) own ≡ Some to → is_names to.sort ≡ true → IsInPolicy s v
names_from s (list ds) own to e n =
    let r = item_found s ds own to e in
    absurd (let f : true ≡ false = sym n ∙ ap (λ (x : Part). is_names x.sort) r.is ∙ no_list_of_names s in cc)
names_from s (dict ms) own to e n = by (is_policy s) refl
  where
    by : (b : Bool) → is_policy s ≡ b → IsInPolicy s (dict ms)
    by true f = record { members = ms; value = refl; policy = f }
    by false f =
        let r = member_found s ms own to e in
        absurd (let g : true ≡ false = sym n ∙ ap (λ (x : Part). is_names x.sort) r.is ∙ names_not s (kind_named (value_at (codes "Type") ms)) own.name f in cc)
names_from s x own to e n = absurd cc

record IsInList (s : Sort) (v : Data) (holder : Step) (to : Part) : Type 0 where
  items : Chain
  value : v ≡ list items
  policies : (s ≡ sort.Retriers) ⊎ (s ≡ sort.Catchers)
  found : Data
  there : item_at holder.at items ≡ Some found

policy_from : (s : Sort) (v : Data) (holder : Step) (to : Part) → next (part s v) holder ≡ Some to → is_policy to.sort ≡ true → IsInList s v holder to
policy_from s (list ds) holder to e n =
    let r = item_found s ds holder to e in
    record { items = ds; value = refl; policies = policy_list s (ap (λ (x : Part). is_policy x.sort) (sym r.is) ∙ n); found = r.value; there = r.there }
policy_from s (dict ms) holder to e n =
    let r = member_found s ms holder to e in
    absurd (let g : true ≡ false = sym n ∙ ap (λ (x : Part). is_policy x.sort) r.is ∙ policy_not s (kind_named (value_at (codes "Type") ms)) holder.name in cc)
policy_from s x holder to e n = absurd cc

ends_inside : (p : Spot) (s : Sort) (ms : Pairs) → (inside p s ms).ends ≡ p.ends
ends_inside p sort.Definition ms = refl
ends_inside p sort.Machine ms = refl
ends_inside p sort.ItemProcessor ms = refl
ends_inside p s ms = refl

-- what stands around names of errors
record AreHeld (d : Data) (outer : List Step) (holder own : Step) : Type 0 where
  of_sort : Sort
  items : Chain
  listed : part_at (whole d) outer ≡ Some (part of_sort (list items))
  policies : (of_sort ≡ sort.Retriers) ⊎ (of_sort ≡ sort.Catchers)
  found : Data
  there : item_at holder.at items ≡ Some found
  ends : (spot_at outside (whole d) ((outer ++ holder ∷ []) ++ own ∷ [])).ends ≡ is_end holder.at items

held : (d : Data) (outer : List Step) (holder own : Step) (to : Part) → part_at (whole d) ((outer ++ holder ∷ []) ++ own ∷ []) ≡ Some to → is_names to.sort ≡ true → AreHeld d outer holder own
held d outer holder own to e n =
    let l = last_step (outer ++ holder ∷ []) own outside (whole d) to e in
    let policy = names_from l.from.sort l.from.value own to l.step n in
    let m = last_step outer holder outside (whole d) l.from l.leads in
    let listed = policy_from m.from.sort m.from.value holder l.from m.step policy.policy in
    let q = spot_at outside (whole d) outer in
    let p = spot_at outside (whole d) (outer ++ holder ∷ []) in
    let inner : (spot_in p l.from.sort l.from.value own to.value).ends ≡ p.ends = subst (λ (v : Data). (spot_in p l.from.sort v own to.value).ends ≡ p.ends) (sym policy.value) (ends_inside p l.from.sort policy.members) in
    let last : (spot_in q m.from.sort m.from.value holder l.from.value).ends ≡ is_end holder.at listed.items = ap (λ (v : Data). (spot_in q m.from.sort v holder l.from.value).ends) listed.value in
    record {
      of_sort = m.from.sort;
      items = listed.items;
      listed = m.leads ∙ ap (λ (v : Data). Some (part m.from.sort v)) listed.value;
      policies = listed.policies;
      found = listed.found;
      there = listed.there;
      ends = ap (λ (s : Spot). s.ends) l.spot ∙ inner ∙ ap (λ (s : Spot). s.ends) m.spot ∙ last;
    }

all_some : (ds : Chain) → has_all ds ≡ true → 0 < item_count ds
all_some no_items e = absurd cc
all_some (item d ds) e = omega arith

record IsPlaced (ends : Bool) (ds : Chain) : Type 0 where
  all : has_all ds ≡ true
  off : (ends && (item_count ds == 1)) ≡ false

not_last : (ends : Bool) (ds : Chain) → is_last ends ds ≡ false → IsPlaced ends ds
not_last ends ds e = by (has_all ds) refl e
  where
    by : (b : Bool) → has_all ds ≡ b → (not b || (ends && (item_count ds == 1))) ≡ false → IsPlaced ends ds
    by true f g = record { all = f; off = g }
    by false f g = absurd cc

others : (i : ℕ) (ns hs : Chain) (v : Data) → item_at i hs ≡ Some v → IsPlaced (is_end i hs) ns → (1 < item_count ns) ⊎ (suc i < item_count hs)
others i ns hs v there h = by (is_end i hs) refl h.off
  where
    by : (b : Bool) → is_end i hs ≡ b → (b && (item_count ns == 1)) ≡ false → (1 < item_count ns) ⊎ (suc i < item_count hs)
    by true e f = inl (let lt : 0 < item_count ns = all_some ns h.all in more_than (item_count ns) lt f)
      where
        more_than : (n : ℕ) → 0 < n → (n == 1) ≡ false → 1 < n
        more_than n lt g = grind (arith, nat_tests)
    by false e f = inr (not_end i hs v there e)

names_true : (x : Part) → x.sort ≡ sort.ErrorNames → is_names x.sort ≡ true
names_true x e = ap is_names e

pub not_last_out : (d : Data) (place : List Step) → HasFault d kind.AllNotLast place → IsNotLast d place
not_last_out d place h =
    let r = stands_out kind.AllNotLast d place refl refl h in
    by place r.to r.wrong.names refl r.leads r.wrong.sort_is r.wrong.value r.wrong.misplaced
  where
    found : (outer : List Step) (holder own : Step) (to : Part) (ns : Chain) → place ≡ (outer ++ holder ∷ []) ++ own ∷ [] → part_at (whole d) place ≡ Some to → to.sort ≡ sort.ErrorNames → to.value ≡ list ns → is_last (spot_at outside (whole d) place).ends ns ≡ false → IsNotLast d place
    found outer holder own to ns is e s v off =
        let led : part_at (whole d) ((outer ++ holder ∷ []) ++ own ∷ []) ≡ Some to = subst (λ (us : List Step). part_at (whole d) us ≡ Some to) is e in
        let k = held d outer holder own to led (names_true to s) in
        let ends : (spot_at outside (whole d) place).ends ≡ is_end holder.at k.items = ap (λ (us : List Step). (spot_at outside (whole d) us).ends) is ∙ k.ends in
        let placed = not_last (is_end holder.at k.items) ns (subst (λ (b : Bool). is_last b ns ≡ false) ends off) in
        record {
          outer = outer;
          holder = holder;
          own = own;
          place_is = is ∙ append_assoc outer (holder ∷ []) (own ∷ []);
          outer_sort = k.of_sort;
          holders = k.items;
          listed = k.listed;
          policies = k.policies;
          names = ns;
          named = e ∙ ap (λ (x : Part). Some x) (part_is to sort.ErrorNames (list ns) s v);
          all = placed.all;
          misplaced = others holder.at ns k.items k.found k.there placed;
        }

    inner : (us : List Step) (own : Step) (to : Part) (ns : Chain) → place ≡ us ++ own ∷ [] → part_at (whole d) place ≡ Some to → to.sort ≡ sort.ErrorNames → to.value ≡ list ns → is_last (spot_at outside (whole d) place).ends ns ≡ false → IsNotLast d place
    inner [] own to ns is e s v off =
        let led : part_at (whole d) (own ∷ []) ≡ Some to = subst (λ (us : List Step). part_at (whole d) us ≡ Some to) is e in
        let l = last_step [] own outside (whole d) to led in
        let policy = names_from l.from.sort l.from.value own to l.step (names_true to s) in
        absurd (let f : false ≡ true = ap (λ (x : Part). is_policy x.sort) (sym (at_root d l.from l.leads)) ∙ policy.policy in cc)
    inner (u ∷ us) own to ns is e s v off =
        let c = cut u us in
        found c.outer c.own own to ns (is ∙ ap (λ (vs : List Step). vs ++ own ∷ []) c.is) e s v off

    by : (us : List Step) (to : Part) (ns : Chain) → place ≡ us → part_at (whole d) place ≡ Some to → to.sort ≡ sort.ErrorNames → to.value ≡ list ns → is_last (spot_at outside (whole d) place).ends ns ≡ false → IsNotLast d place
    by [] to ns is e s v off =
        let led : part_at (whole d) [] ≡ Some to = subst (λ (us : List Step). part_at (whole d) us ≡ Some to) is e in
        absurd (let f : false ≡ true = ap (λ (x : Part). is_names x.sort) (sym (at_root d to led)) ∙ names_true to s in cc)
    by (u ∷ us) to ns is e s v off =
        let c = cut u us in
        inner c.outer c.own to ns (is ∙ c.is) e s v off

abbrev value_or : Option Part → Data → Data
value_or None v = v
value_or (Some x) v = x.value

misplaced_at : (i : ℕ) (ns hs : Chain) → has_all ns ≡ true → (1 < item_count ns) ⊎ (suc i < item_count hs) → is_last (is_end i hs) ns ≡ false
misplaced_at i ns hs all (inl h) =
    let e : (item_count ns == 1) ≡ false = grind (arith, nat_tests) in
    rw (all, e) (and_off (is_end i hs))
  where
    and_off : (b : Bool) → (b && false) ≡ false
    and_off true = refl
    and_off false = refl
misplaced_at i ns hs all (inr h) =
    let e : is_end i hs ≡ false = end_not i hs h in
    rw (all, e) refl

pub not_last_in : (d : Data) (place : List Step) → IsNotLast d place → HasFault d kind.AllNotLast place
not_last_in d place h =
    let to = part sort.ErrorNames (list h.names) in
    let is : place ≡ (h.outer ++ h.holder ∷ []) ++ h.own ∷ [] = h.place_is ∙ sym (append_assoc h.outer (h.holder ∷ []) (h.own ∷ [])) in
    let led : part_at (whole d) ((h.outer ++ h.holder ∷ []) ++ h.own ∷ []) ≡ Some to = subst (λ (us : List Step). part_at (whole d) us ≡ Some to) is h.named in
    let k = held d h.outer h.holder h.own to led refl in
    let same : list k.items ≡ list h.holders = (let e : Some (part k.of_sort (list k.items)) ≡ Some (part h.outer_sort (list h.holders)) = sym k.listed ∙ h.listed in ap (λ (o : Option Part). value_or o (list k.items)) e) in
    let items : k.items ≡ h.holders = cc in
    let ends : (spot_at outside (whole d) place).ends ≡ is_end h.holder.at h.holders = ap (λ (us : List Step). (spot_at outside (whole d) us).ends) is ∙ k.ends ∙ ap (is_end h.holder.at) items in
    stands_in kind.AllNotLast d place to h.named (record { names = h.names; sort_is = refl; value = refl; misplaced = subst (λ (b : Bool). is_last b h.names ≡ false) (sym ends) (misplaced_at h.holder.at h.names h.holders h.all h.misplaced) })
