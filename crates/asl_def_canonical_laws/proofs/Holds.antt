-- The canonical form of a definition without faults has none.
use mathlib.Core.Path.{fun_ext}
use Rattle.std.proofs.Common.{◌≡◌, ℕ, suc, List, [], ◌∷◌, ◌++◌, Bool, true, false, not, ◌&&◌, refl, sym, ap, ◌∙◌, subst}
use Rattle.std.specs.Prelude.{Option, Some, None, is_some, option_map, map, codes, nat_le}
use Rattle.std.specs.Fmt.{decimal}
use Rattle.asl_json_data.specs.Data.{Data, null, boolean, number, text, list, dict, Chain, no_items, item, Pairs, no_members, member, pairs}
use Rattle.asl_json.specs.Meaning.{value_at, count}
use Rattle.asl_json_data.specs.Distinct.{Members, AreDistinct}
use Rattle.asl_json.specs.View.{unpaired}
use Rattle.asl_def_schema.specs.declared.sort.Sort.{Sort}
use Rattle.asl_def_schema.specs.declared.sort.Sort.TheVariants as sort
use Rattle.asl_def_schema.specs.declared.sort.Kind.{Kind}
use Rattle.asl_def_schema.specs.Members.{Shape, shape_of, shape_in, sort_at, item_sort, kind_named, definition_rows, machine_rows, item_processor_rows}
use Rattle.asl_json.specs.Access.{members_of_any}
use Rattle.asl_def_schema.specs.Claims.{Spot, under, heres, step, demands, claims, at_member, at_item, inside, one_deeper, names_in, member_claims, item_claims, row_claims, group_demands, object_claims, is_object, is_template, is_nonempty, item_count}
use Rattle.asl_def_schema.specs.First.{Each, Hold}
use Rattle.asl_json.specs.Sound.{KeysDiffer, KeysDifferInItems, KeysDifferInMembers}
use Rattle.asl_def_schema.specs.Clean.{IsCleanInside}
use Rattle.asl_def_schema.specs.Canon.{kept, canon, canon_items, canon_members, arranged, listed, picked}
use Rattle.asl_def_schema.proofs.Canons.{value_at-canon}
use Rattle.asl_def_judge.proofs.Answering.{each-append}
use Rattle.asl_def_schema.proofs.Inside.{each_left, each_right, each_under, own_hold, object_hold}
use Rattle.asl_def_schema.proofs.Deciding.{not_true}
use Rattle.asl_def_canonical_laws.proofs.Twice.{shape_kept, picked_there}
use Rattle.asl_def_canonical_laws.proofs.Amounts.{shape_differs}
use Rattle.asl_def_canonical_laws.proofs.Rows.{shape_stays}
use Rattle.asl_def_canonical_laws.proofs.Members.{CanonHold, member_spot, under_holds, members_hold, groups_hold, rows_hold}

-- ---- the names of a machine's states

mapped_there : (s : Sort) (o : Option Data) → is_some (option_map (canon s) o) ≡ is_some o
mapped_there s None = refl
mapped_there s (Some d) = refl

states_there : (k : List ℕ) (o : Option Data) → is_some (value_at k (members_of_any (kept (codes "States") (option_map (canon sort.States) o)))) ≡ is_some (value_at k (members_of_any o))
states_there k None = refl
states_there k (Some null) = refl
states_there k (Some (boolean true)) = refl
states_there k (Some (boolean false)) = refl
states_there k (Some (number n)) = refl
states_there k (Some (text t)) = refl
states_there k (Some (list ds)) = refl
states_there k (Some (dict ms)) =
    let sh = shape_in sort.States ms in
    ap is_some (value_at-canon k sh ms) ∙ mapped_there (sort_at sh k) (value_at k ms)

definition_names : (ms : Pairs) (k : List ℕ) → names_in (pairs (picked (shape_in sort.Definition ms).rows (canon_members (shape_in sort.Definition ms) ms))) k ≡ names_in ms k
unfolding definition_rows
definition_names ms k =
    let sh = shape_in sort.Definition ms in
    ap (λ (o : Option Data). is_some (value_at k (members_of_any o))) (picked_there (codes "States") sh.rows (canon_members sh ms) refl ∙ ap (kept (codes "States")) (value_at-canon (codes "States") sh ms))
    ∙ states_there k (value_at (codes "States") ms)

machine_names : (ms : Pairs) (k : List ℕ) → names_in (pairs (picked (shape_in sort.Machine ms).rows (canon_members (shape_in sort.Machine ms) ms))) k ≡ names_in ms k
unfolding machine_rows
machine_names ms k =
    let sh = shape_in sort.Machine ms in
    ap (λ (o : Option Data). is_some (value_at k (members_of_any o))) (picked_there (codes "States") sh.rows (canon_members sh ms) refl ∙ ap (kept (codes "States")) (value_at-canon (codes "States") sh ms))
    ∙ states_there k (value_at (codes "States") ms)

processor_names : (ms : Pairs) (k : List ℕ) → names_in (pairs (picked (shape_in sort.ItemProcessor ms).rows (canon_members (shape_in sort.ItemProcessor ms) ms))) k ≡ names_in ms k
unfolding item_processor_rows
processor_names ms k =
    let sh = shape_in sort.ItemProcessor ms in
    ap (λ (o : Option Data). is_some (value_at k (members_of_any o))) (picked_there (codes "States") sh.rows (canon_members sh ms) refl ∙ ap (kept (codes "States")) (value_at-canon (codes "States") sh ms))
    ∙ states_there k (value_at (codes "States") ms)

-- ---- objects

-- behind what is demanded of the object by itself
abbrev Parts : Spot → Shape → Pairs → Type 0
Parts p sh ns = Each Hold (heres (group_demands sh.groups ns) ++ (member_claims p sh [] 0 ns ++ row_claims (count ns) sh.rows ns))

parts_hold : (p : Spot) (s : Sort) (o : Option Kind) (ms : Pairs) → is_template (shape_of s o).others ≡ false → AreDistinct [] (unpaired ms) → Parts p (shape_of s o) ms → CanonHold p (shape_of s o) ms → Parts p (shape_of s o) (pairs (picked (shape_of s o).rows (canon_members (shape_of s o) ms)))
parts_hold p s o ms t distinct h all =
    let sh = shape_of s o in
    let ns = pairs (picked sh.rows (canon_members sh ms)) in
    let groups = each_left Hold (heres (group_demands sh.groups ms)) (member_claims p sh [] 0 ms ++ row_claims (count ms) sh.rows ms) h in
    let others = each_right Hold (heres (group_demands sh.groups ms)) (member_claims p sh [] 0 ms ++ row_claims (count ms) sh.rows ms) h in
    let members = each_left Hold (member_claims p sh [] 0 ms) (row_claims (count ms) sh.rows ms) others in
    let rows = each_right Hold (member_claims p sh [] 0 ms) (row_claims (count ms) sh.rows ms) others in
    let clean : IsCleanInside p.names sh ms = record { spot = p; named = λ k. refl; groups = groups; members = members; rows = rows } in
    each-append Hold (heres (group_demands sh.groups ns)) (member_claims p sh [] 0 ns ++ row_claims (count ns) sh.rows ns) (groups_hold p.names s o ms distinct clean)
    (each-append Hold (member_claims p sh [] 0 ns) (row_claims (count ns) sh.rows ns) (members_hold p.names p sh ms t (shape_differs s o) clean all) (rows_hold sh ms (count ns) (count ms) (shape_stays s o) rows))

-- of an object whose members stand in order
ordered_hold : (p : Spot) (s : Sort) (ms : Pairs) → is_object s ≡ true → is_template (shape_in s ms).others ≡ false → AreDistinct [] (unpaired ms) → Each Hold (claims p s (dict ms)) → CanonHold (inside p s ms) (shape_in s ms) ms → Parts (inside p s ms) (shape_in s ms) (pairs (picked (shape_in s ms).rows (canon_members (shape_in s ms) ms)))
ordered_hold p s ms e t distinct h all = parts_hold (inside p s ms) s (kind_named (value_at (codes "Type") ms)) ms t distinct (object_hold p s ms e h) all

state_no_template : (o : Option Kind) → is_template (shape_of sort.State o).others ≡ false
state_no_template None = refl
state_no_template (Some k) = refl

states_hold : (p : Spot) (o : Option Kind) (seen : Members) (i : ℕ) (ms : Pairs) → CanonHold p (shape_of sort.States o) ms → Each Hold (member_claims p (shape_of sort.States o) seen i (canon_members (shape_of sort.States o) ms))
states_hold p o seen i no_members h = tt
states_hold p o seen i (member k d ms) h =
    let sh = shape_of sort.States o in
    let v = canon (sort_at sh k) d in
    each-append Hold (map (under (step i k)) (claims (at_member p sh seen k v) (sort_at sh k) v)) (member_claims p sh (seen ++ (k, v) ∷ []) (suc i) (canon_members sh ms))
    (under_holds (step i k) (claims (at_member p sh seen k v) (sort_at sh k) v) h.0)
    (states_hold p o (seen ++ (k, v) ∷ []) (suc i) ms h.1)

arranged_hold : (p : Spot) (s : Sort) (ms : Pairs) → AreDistinct [] (unpaired ms) → Each Hold (claims p s (dict ms)) → (is_object s ≡ true → CanonHold (inside p s ms) (shape_in s ms) ms) → Each Hold (claims p s (arranged s (shape_in s ms).rows ms (canon_members (shape_in s ms) ms)))
arranged_hold p sort.Definition ms distinct h all =
    let ns = pairs (picked (shape_in sort.Definition ms).rows (canon_members (shape_in sort.Definition ms) ms)) in
    let named : names_in ms ≡ names_in ns = fun_ext (λ k. sym (definition_names ms k)) in
    each-append Hold (heres (demands p sort.Definition (dict ns))) (object_claims p sort.Definition ns) (own_hold p sort.Definition (dict ms) h)
    (subst (λ (names : List ℕ → Bool). Parts (record { names = names; level = one_deeper p.level; ends = p.ends; key = p.key; doubled = p.doubled }) (shape_in sort.Definition ms) ns) named (ordered_hold p sort.Definition ms refl refl distinct h (all refl)))
arranged_hold p sort.Machine ms distinct h all =
    let ns = pairs (picked (shape_in sort.Machine ms).rows (canon_members (shape_in sort.Machine ms) ms)) in
    let named : names_in ms ≡ names_in ns = fun_ext (λ k. sym (machine_names ms k)) in
    each-append Hold (heres (demands p sort.Machine (dict ns))) (object_claims p sort.Machine ns) (own_hold p sort.Machine (dict ms) h)
    (subst (λ (names : List ℕ → Bool). Parts (record { names = names; level = one_deeper p.level; ends = p.ends; key = p.key; doubled = p.doubled }) (shape_in sort.Machine ms) ns) named (ordered_hold p sort.Machine ms refl refl distinct h (all refl)))
arranged_hold p sort.ItemProcessor ms distinct h all =
    let ns = pairs (picked (shape_in sort.ItemProcessor ms).rows (canon_members (shape_in sort.ItemProcessor ms) ms)) in
    let named : names_in ms ≡ names_in ns = fun_ext (λ k. sym (processor_names ms k)) in
    each-append Hold (heres (demands p sort.ItemProcessor (dict ns))) (object_claims p sort.ItemProcessor ns) (own_hold p sort.ItemProcessor (dict ms) h)
    (subst (λ (names : List ℕ → Bool). Parts (record { names = names; level = one_deeper p.level; ends = p.ends; key = p.key; doubled = p.doubled }) (shape_in sort.ItemProcessor ms) ns) named (ordered_hold p sort.ItemProcessor ms refl refl distinct h (all refl)))
arranged_hold p sort.State ms distinct h all =
    let ns = pairs (picked (shape_in sort.State ms).rows (canon_members (shape_in sort.State ms) ms)) in
    each-append Hold (heres (demands p sort.State (dict ns))) (object_claims p sort.State ns) (own_hold p sort.State (dict ms) h)
    (subst (λ (sh : Shape). Parts p sh ns) (sym (shape_kept ms)) (ordered_hold p sort.State ms refl (state_no_template (kind_named (value_at (codes "Type") ms))) distinct h (all refl)))
arranged_hold p sort.Rule ms distinct h all =
    let ns = pairs (picked (shape_in sort.Rule ms).rows (canon_members (shape_in sort.Rule ms) ms)) in
    each-append Hold (heres (demands p sort.Rule (dict ns))) (object_claims p sort.Rule ns) (own_hold p sort.Rule (dict ms) h) (ordered_hold p sort.Rule ms refl refl distinct h (all refl))
arranged_hold p sort.InnerRule ms distinct h all =
    let ns = pairs (picked (shape_in sort.InnerRule ms).rows (canon_members (shape_in sort.InnerRule ms) ms)) in
    each-append Hold (heres (demands p sort.InnerRule (dict ns))) (object_claims p sort.InnerRule ns) (own_hold p sort.InnerRule (dict ms) h) (ordered_hold p sort.InnerRule ms refl refl distinct h (all refl))
arranged_hold p sort.Retrier ms distinct h all =
    let ns = pairs (picked (shape_in sort.Retrier ms).rows (canon_members (shape_in sort.Retrier ms) ms)) in
    each-append Hold (heres (demands p sort.Retrier (dict ns))) (object_claims p sort.Retrier ns) (own_hold p sort.Retrier (dict ms) h) (ordered_hold p sort.Retrier ms refl refl distinct h (all refl))
arranged_hold p sort.Catcher ms distinct h all =
    let ns = pairs (picked (shape_in sort.Catcher ms).rows (canon_members (shape_in sort.Catcher ms) ms)) in
    each-append Hold (heres (demands p sort.Catcher (dict ns))) (object_claims p sort.Catcher ns) (own_hold p sort.Catcher (dict ms) h) (ordered_hold p sort.Catcher ms refl refl distinct h (all refl))
arranged_hold p sort.States ms distinct h all =
    let o = kind_named (value_at (codes "Type") ms) in
    let cs = canon_members (shape_in sort.States ms) ms in
    each-append Hold (heres (demands p sort.States (dict cs))) (object_claims p sort.States cs) (own_hold p sort.States (dict ms) h)
    (each-append Hold (member_claims p (shape_of sort.States o) [] 0 cs) [] (states_hold p o [] 0 ms (all refl)) tt)
arranged_hold p s ms distinct h all = h

-- ---- lists

canon_nonempty : (s : Sort) (ds : Chain) → is_nonempty (canon_items s ds) ≡ is_nonempty ds
canon_nonempty s no_items = refl
canon_nonempty s (item d ds) = refl

canon_count : (s : Sort) (ds : Chain) → item_count (canon_items s ds) ≡ item_count ds
canon_count s no_items = refl
canon_count s (item d ds) = ap suc (canon_count s ds)

listed_hold : (p : Spot) (s : Sort) (ds : Chain) → Each Hold (claims p s (list ds)) → (Each Hold (item_claims p (item_sort s) 0 ds) → Each Hold (item_claims p (item_sort s) 0 (canon_items (item_sort s) ds))) → Each Hold (claims p s (listed s ds (canon_items (item_sort s) ds)))
listed_hold p sort.Machines ds h rest =
    let cs = canon_items sort.Machine ds in
    let own = own_hold p sort.Machines (list ds) h in
    let many : (is_nonempty cs && nat_le (item_count cs) 999999999) ≡ true = rw (canon_nonempty sort.Machine ds, canon_count sort.Machine ds) own.1.1.0 in
    each-append Hold (heres (demands p sort.Machines (list cs))) (item_claims p sort.Machine 0 cs) (own.0, (own.1.0, (many, tt))) (rest (each_right Hold (heres (demands p sort.Machines (list ds))) (item_claims p sort.Machine 0 ds) h))
listed_hold p sort.Rules ds h rest =
    let cs = canon_items sort.Rule ds in
    let own = own_hold p sort.Rules (list ds) h in
    let many : is_nonempty cs ≡ true = canon_nonempty sort.Rule ds ∙ own.1.1.0 in
    each-append Hold (heres (demands p sort.Rules (list cs))) (item_claims p sort.Rule 0 cs) (own.0, (own.1.0, (many, tt))) (rest (each_right Hold (heres (demands p sort.Rules (list ds))) (item_claims p sort.Rule 0 ds) h))
listed_hold p sort.InnerRules ds h rest =
    let cs = canon_items sort.InnerRule ds in
    let own = own_hold p sort.InnerRules (list ds) h in
    let many : is_nonempty cs ≡ true = canon_nonempty sort.InnerRule ds ∙ own.1.1.0 in
    each-append Hold (heres (demands p sort.InnerRules (list cs))) (item_claims p sort.InnerRule 0 cs) (own.0, (own.1.0, (many, tt))) (rest (each_right Hold (heres (demands p sort.InnerRules (list ds))) (item_claims p sort.InnerRule 0 ds) h))
listed_hold p sort.Retriers ds h rest =
    let cs = canon_items sort.Retrier ds in
    each-append Hold (heres (demands p sort.Retriers (list cs))) (item_claims p sort.Retrier 0 cs) (own_hold p sort.Retriers (list ds) h) (rest (each_right Hold (heres (demands p sort.Retriers (list ds))) (item_claims p sort.Retrier 0 ds) h))
listed_hold p sort.Catchers ds h rest =
    let cs = canon_items sort.Catcher ds in
    each-append Hold (heres (demands p sort.Catchers (list cs))) (item_claims p sort.Catcher 0 cs) (own_hold p sort.Catchers (list ds) h) (rest (each_right Hold (heres (demands p sort.Catchers (list ds))) (item_claims p sort.Catcher 0 ds) h))
listed_hold p s ds h rest = h

-- ---- every value

mutual
  pub claims_canon : (p : Spot) (s : Sort) (d : Data) → KeysDiffer d → Each Hold (claims p s d) → Each Hold (claims p s (canon s d))
  claims_canon p s null keys h = h
  claims_canon p s (boolean b) keys h = h
  claims_canon p s (number n) keys h = h
  claims_canon p s (text t) keys h = h
  claims_canon p s (list ds) keys h = listed_hold p s ds h (λ g. items_canon p (item_sort s) 0 ds keys g)
  claims_canon p s (dict ms) keys h =
      arranged_hold p s ms keys.0 h (λ e.
      let sh = shape_in s ms in
      let others = each_right Hold (heres (group_demands sh.groups ms)) (member_claims (inside p s ms) sh [] 0 ms ++ row_claims (count ms) sh.rows ms) (object_hold p s ms e h) in
      members_canon (inside p s ms) sh [] 0 ms keys.1 (each_left Hold (member_claims (inside p s ms) sh [] 0 ms) (row_claims (count ms) sh.rows ms) others))

  items_canon : (p : Spot) (s : Sort) (i : ℕ) (ds : Chain) → KeysDifferInItems ds → Each Hold (item_claims p s i ds) → Each Hold (item_claims p s i (canon_items s ds))
  items_canon p s i no_items keys h = tt
  items_canon p s i (item d ds) keys h =
      let there = step i (decimal i) in
      let spot = at_item p (not (is_nonempty ds)) in
      let part = map (under there) (claims spot s d) in
      let rest = item_claims p s (suc i) ds in
      let own = claims_canon spot s d keys.0 (each_under there (claims spot s d) (each_left Hold part rest h)) in
      let placed : Each Hold (claims (at_item p (not (is_nonempty (canon_items s ds)))) s (canon s d)) = subst (λ (b : Bool). Each Hold (claims (at_item p (not b)) s (canon s d))) (sym (canon_nonempty s ds)) own in
      each-append Hold (map (under there) (claims (at_item p (not (is_nonempty (canon_items s ds)))) s (canon s d))) (item_claims p s (suc i) (canon_items s ds))
      (under_holds there (claims (at_item p (not (is_nonempty (canon_items s ds)))) s (canon s d)) placed)
      (items_canon p s (suc i) ds keys.1 (each_right Hold part rest h))

  members_canon : (p : Spot) (sh : Shape) (seen : Members) (i : ℕ) (ms : Pairs) → KeysDifferInMembers ms → Each Hold (member_claims p sh seen i ms) → CanonHold p sh ms
  members_canon p sh seen i no_members keys h = tt
  members_canon p sh seen i (member k d ms) keys h =
      let spot = at_member p sh seen k d in
      let part = map (under (step i k)) (claims spot (sort_at sh k) d) in
      let rest = member_claims p sh (seen ++ (k, d) ∷ []) (suc i) ms in
      let own = each_under (step i k) (claims spot (sort_at sh k) d) (each_left Hold part rest h) in
      let single : spot.doubled ≡ false = not_true spot.doubled (own_hold spot (sort_at sh k) d own).0 in
      let moved : Each Hold (claims (member_spot p k false) (sort_at sh k) d) = subst (λ (b : Bool). Each Hold (claims (member_spot p k b) (sort_at sh k) d)) single own in
      (claims_canon (member_spot p k false) (sort_at sh k) d keys.0 moved, members_canon p sh (seen ++ (k, d) ∷ []) (suc i) ms keys.1 (each_right Hold part rest h))
