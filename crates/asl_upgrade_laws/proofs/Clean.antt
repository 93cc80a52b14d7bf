-- Each state of a definition without faults is without faults.
use Rattle.std.proofs.Common.{◌≡◌, ℕ, suc, List, [], ◌∷◌, ◌++◌, Bool, true, false, not, refl, sym, subst}
use Rattle.std.specs.Prelude.{Option, Some, map, codes}
use Rattle.std.specs.Fmt.{decimal}
use Rattle.asl_json_data.specs.Data.{Data, null, boolean, number, text, list, dict, Chain, no_items, item, Pairs, no_members, member, pairs}
use Rattle.asl_json.specs.Same.{bytes_eq}
use Rattle.asl_json.specs.Meaning.{value_at, count}
use Rattle.asl_json_data.specs.Distinct.{Members}
use Rattle.asl_json.specs.View.{unpaired}
use Rattle.asl_def_schema.specs.declared.sort.Sort.{Sort}
use Rattle.asl_def_schema.specs.declared.sort.Sort.TheVariants as sort
use Rattle.asl_def_schema.specs.declared.sort.Kind.{Kind}
use Rattle.asl_def_schema.specs.Members.{Shape, shape_of, shape_in, sort_at, kind_named}
use Rattle.asl_def_schema.specs.Claims.{Spot, under, heres, step, demands, claims, at_member, at_item, inside, member_claims, item_claims, row_claims, group_demands, is_object, is_nonempty, outside}
use Rattle.asl_def_schema.specs.States.{states_in, unique_claims}
use Rattle.asl_def_schema.specs.First.{Each, Hold}
use Rattle.asl_def_schema.specs.Clean.{IsClean, IsCleanAmong}
use Rattle.asl_def_schema.specs.Canon.{Named}
use Rattle.asl_def_schema.specs.Faults.{Accepted}
use Rattle.asl_def_schema.proofs.Inside.{each_left, each_right, each_under, object_hold}
use Rattle.asl_def.specs.Machines.{holds_states, all_states, states_of_items, states_of_members, states_of, state_object}

abbrev pub AreClean : List Named → Type 0
AreClean [] = Unit {0}
AreClean (x ∷ xs) = IsClean sort.State x.1 × AreClean xs

clean-append : (xs ys : List Named) → AreClean xs → AreClean ys → AreClean (xs ++ ys)
clean-append [] ys h k = k
clean-append (x ∷ xs) ys h k = (h.0, clean-append xs ys h.1 k)

-- what holds no states
leaf : (s : Sort) (d : Data) → holds_states s ≡ false → all_states s d ≡ []
leaf s null e = refl
leaf s (boolean b) e = refl
leaf s (number n) e = refl
leaf s (text t) e = refl
leaf s (list ds) e = rw e refl
leaf s (dict ms) e = rw e refl

leaf_items : (s : Sort) (ds : Chain) → holds_states s ≡ false → states_of_items s ds ≡ []
leaf_items s no_items e = refl
leaf_items s (item d ds) e = λ i. leaf s d e i ++ leaf_items s ds e i

leaf_members : (sh : Shape) (ms : Pairs) → ((k : List ℕ) → holds_states (sort_at sh k) ≡ false) → states_of_members sh ms ≡ []
leaf_members sh no_members e = refl
leaf_members sh (member k d ms) e = λ i. leaf (sort_at sh k) d (e k) i ++ leaf_members sh ms e i

none : (xs : List Named) → xs ≡ [] → AreClean xs
none xs e = subst AreClean (sym e) tt

-- the states of a machine itself
own_clean : (p : Spot) (o : Option Kind) (seen : Members) (i : ℕ) (ms : Pairs) → Each Hold (member_claims p (shape_of sort.States o) seen i ms) → AreClean (unpaired ms)
own_clean p o seen i no_members h = tt
own_clean p o seen i (member k d ms) h =
    let sh = shape_of sort.States o in
    let part = map (under (step i k)) (claims (at_member p sh seen k d) sort.State d) in
    let rest = member_claims p sh (seen ++ (k, d) ∷ []) (suc i) ms in
    let own : IsCleanAmong p.names sort.State d = record { spot = at_member p sh seen k d; named = λ l. refl; hold = each_under (step i k) (claims (at_member p sh seen k d) sort.State d) (each_left Hold part rest h) } in
    (record { names = p.names; is = own }, own_clean p o (seen ++ (k, d) ∷ []) (suc i) ms (each_right Hold part rest h))

list_clean : (p : Spot) (s : Sort) (ds : Chain) → Each Hold (claims p s (list ds)) → (Each Hold (item_claims p sort.Machine 0 ds) → AreClean (states_of_items sort.Machine ds)) → AreClean (all_states s (list ds))
list_clean p sort.Machines ds h rest = rest (each_right Hold (heres (demands p sort.Machines (list ds))) (item_claims p sort.Machine 0 ds) h)
list_clean p sort.Definition ds h rest = none (states_of_items sort.Any ds) (leaf_items sort.Any ds refl)
list_clean p sort.Machine ds h rest = none (states_of_items sort.Any ds) (leaf_items sort.Any ds refl)
list_clean p sort.ItemProcessor ds h rest = none (states_of_items sort.Any ds) (leaf_items sort.Any ds refl)
list_clean p sort.States ds h rest = none (states_of_items sort.Any ds) (leaf_items sort.Any ds refl)
list_clean p sort.State ds h rest = none (states_of_items sort.Any ds) (leaf_items sort.Any ds refl)
list_clean p s ds h rest = tt

members_of : (p : Spot) (s : Sort) (ms : Pairs) → is_object s ≡ true → Each Hold (claims p s (dict ms)) → Each Hold (member_claims (inside p s ms) (shape_in s ms) [] 0 ms)
members_of p s ms e h =
    let sh = shape_in s ms in
    let others = each_right Hold (heres (group_demands sh.groups ms)) (member_claims (inside p s ms) sh [] 0 ms ++ row_claims (count ms) sh.rows ms) (object_hold p s ms e h) in
    each_left Hold (member_claims (inside p s ms) sh [] 0 ms) (row_claims (count ms) sh.rows ms) others

dict_clean : (p : Spot) (s : Sort) (ms : Pairs) → Each Hold (claims p s (dict ms)) → (is_object s ≡ true → AreClean (states_of_members (shape_in s ms) ms)) → AreClean (all_states s (dict ms))
dict_clean p sort.Definition ms h rest = clean-append (states_of_members (shape_in sort.Definition ms) ms) [] (rest refl) tt
dict_clean p sort.Machine ms h rest = clean-append (states_of_members (shape_in sort.Machine ms) ms) [] (rest refl) tt
dict_clean p sort.ItemProcessor ms h rest = clean-append (states_of_members (shape_in sort.ItemProcessor ms) ms) [] (rest refl) tt
dict_clean p sort.State ms h rest = clean-append (states_of_members (shape_in sort.State ms) ms) [] (rest refl) tt
dict_clean p sort.States ms h rest =
    clean-append (states_of_members (shape_in sort.States ms) ms) (unpaired ms) (rest refl)
    (own_clean (inside p sort.States ms) (kind_named (value_at (codes "Type") ms)) [] 0 ms (members_of p sort.States ms refl h))
dict_clean p sort.Machines ms h rest = clean-append (states_of_members (shape_in sort.Machines ms) ms) [] (none (states_of_members (shape_in sort.Machines ms) ms) (leaf_members (shape_in sort.Machines ms) ms (λ k. refl))) tt
dict_clean p s ms h rest = tt

mutual
  pub states_clean : (p : Spot) (s : Sort) (d : Data) → Each Hold (claims p s d) → AreClean (all_states s d)
  states_clean p s null h = tt
  states_clean p s (boolean b) h = tt
  states_clean p s (number n) h = tt
  states_clean p s (text t) h = tt
  states_clean p s (list ds) h = list_clean p s ds h (λ g. items_clean p sort.Machine 0 ds g)
  states_clean p s (dict ms) h = dict_clean p s ms h (λ e. members_clean (inside p s ms) (shape_in s ms) [] 0 ms (members_of p s ms e h))

  items_clean : (p : Spot) (s : Sort) (i : ℕ) (ds : Chain) → Each Hold (item_claims p s i ds) → AreClean (states_of_items s ds)
  items_clean p s i no_items h = tt
  items_clean p s i (item d ds) h =
      let place = step i (decimal i) in
      let spot = at_item p (not (is_nonempty ds)) in
      let part = map (under place) (claims spot s d) in
      let rest = item_claims p s (suc i) ds in
      clean-append (all_states s d) (states_of_items s ds) (states_clean spot s d (each_under place (claims spot s d) (each_left Hold part rest h))) (items_clean p s (suc i) ds (each_right Hold part rest h))

  members_clean : (p : Spot) (sh : Shape) (seen : Members) (i : ℕ) (ms : Pairs) → Each Hold (member_claims p sh seen i ms) → AreClean (states_of_members sh ms)
  members_clean p sh seen i no_members h = tt
  members_clean p sh seen i (member k d ms) h =
      let spot = at_member p sh seen k d in
      let part = map (under (step i k)) (claims spot (sort_at sh k) d) in
      let rest = member_claims p sh (seen ++ (k, d) ∷ []) (suc i) ms in
      let own = each_under (step i k) (claims spot (sort_at sh k) d) (each_left Hold part rest h) in
      clean-append (all_states (sort_at sh k) d) (states_of_members sh ms) (states_clean spot (sort_at sh k) d own) (members_clean p sh (seen ++ (k, d) ∷ []) (suc i) ms (each_right Hold part rest h))

found_clean : (k : List ℕ) (xs : List Named) (o : Data) → AreClean xs → value_at k (pairs xs) ≡ Some o → IsClean sort.State o
found_clean k [] o h e = absurd cc
found_clean k (x ∷ xs) o h e = by (bytes_eq k x.0) refl (λ f. found_clean k xs o h.1 f)
  where
    by : (b : Bool) → bytes_eq k x.0 ≡ b → (value_at k (pairs xs) ≡ Some o → IsClean sort.State o) → IsClean sort.State o
    by true p rest = let same : x.1 ≡ o = let y = rw p at e in cc in subst (IsClean sort.State) same h.0
    by false p rest = rest (rw p at e)

-- the state of a name
pub object_clean : (d : Data) → Accepted d → (k : List ℕ) (o : Data) → state_object k d ≡ Some o → IsClean sort.State o
object_clean d a k o e =
    found_clean k (states_of d) o (states_clean outside sort.Definition d (each_left Hold (claims outside sort.Definition d) (unique_claims [] (states_in sort.Definition d)) a.hold)) e
