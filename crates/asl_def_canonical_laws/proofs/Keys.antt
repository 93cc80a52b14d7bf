-- No object of the canonical form has a key twice.
use Rattle.std.proofs.Common.{◌≡◌, ℕ, List, [], ◌∷◌, ◌++◌, Bool, true, false, ◌||◌, not, refl, sym, ap, ◌∙◌, subst}
use Rattle.std.specs.Prelude.{Option, Some, None, codes}
use Rattle.asl_json_data.specs.Data.{Data, null, boolean, number, text, list, dict, Chain, no_items, item, Pairs, no_members, member, pairs}
use Rattle.asl_json.specs.Same.{bytes_eq}
use Rattle.asl_json.specs.private.SameLaws.{bytes_refl}
use Rattle.asl_json.specs.Meaning.{value_at}
use Rattle.asl_json_data.specs.Distinct.{Members, has_key, AreDistinct}
use Rattle.asl_json.specs.View.{unpaired}
use Rattle.asl_json.proofs.Knowing.{has_key-push}
use Rattle.asl_def_schema.specs.declared.sort.Sort.{Sort}
use Rattle.asl_def_schema.specs.declared.sort.Sort.TheVariants as sort
use Rattle.asl_def_schema.specs.Members.{Row, Shape, shape_in, sort_at, item_sort, kind_named}
use Rattle.asl_json.specs.Sound.{KeysDiffer, KeysDifferInItems, KeysDifferInMembers}
use Rattle.asl_def_schema.specs.Canon.{opt, kept, canon, canon_items, canon_members, arranged, listed, picked}
use Rattle.asl_def_schema.proofs.Inside.{or_right}
use Rattle.asl_def_schema.proofs.Deciding.{not_true}
use Rattle.asl_def_canonical_laws.proofs.Twice.{is_row}
use Rattle.asl_def_canonical_laws.proofs.Amounts.{rows_differ, both_are, shape_differs, kept_is}
use Rattle.asl_def_canonical_laws.proofs.Members.{apart}

-- what stands before has the same keys
alike_push : (old new : Members) (a b : List ℕ × Data) → ((k : List ℕ) → has_key k old ≡ has_key k new) → a.0 ≡ b.0 → (k : List ℕ) → has_key k (old ++ a ∷ []) ≡ has_key k (new ++ b ∷ [])
alike_push old new a b h e k = has_key-push k old a ∙ ap (λ (x : Bool). x || bytes_eq k a.0) (h k) ∙ ap (λ (l : List ℕ). has_key k new || bytes_eq k l) e ∙ sym (has_key-push k new b)

-- members with other values
distinct_canon : (sh : Shape) (old new : Members) (ms : Pairs) → ((k : List ℕ) → has_key k old ≡ has_key k new) → AreDistinct old (unpaired ms) → AreDistinct new (unpaired (canon_members sh ms))
distinct_canon sh old new no_members h d = tt
distinct_canon sh old new (member k v ms) h d = (sym (h k) ∙ d.0, distinct_canon sh (old ++ (k, v) ∷ []) (new ++ (k, canon (sort_at sh k) v) ∷ []) ms (alike_push old new (k, v) (k, canon (sort_at sh k) v) h refl) d.1)

-- members that are picked
distinct_picked : (rs : List Row) (seen : Members) (cs : Pairs) → rows_differ rs ≡ true → ((k : List ℕ) → is_row k rs ≡ true → has_key k seen ≡ false) → AreDistinct seen (unpaired (pairs (picked rs cs)))
distinct_picked [] seen cs e new = tt
distinct_picked (r ∷ rs) seen cs e new =
    by (kept r.name (value_at r.name cs)) (not_true (is_row r.name rs) (both_are (not (is_row r.name rs)) (rows_differ rs) e).0)
    (λ others. distinct_picked rs others cs (both_are (not (is_row r.name rs)) (rows_differ rs) e).1)
  where
    by : (o : Option Data) → is_row r.name rs ≡ false → ((others : Members) → ((k : List ℕ) → is_row k rs ≡ true → has_key k others ≡ false) → AreDistinct others (unpaired (pairs (picked rs cs)))) → AreDistinct seen (unpaired (pairs (opt r.name o ++ picked rs cs)))
    by None off rest = rest seen (λ k on. new k (or_right (bytes_eq k r.name) (is_row k rs) on))
    by (Some d) off rest = (
      new r.name (rw (bytes_refl r.name) refl),
      rest (seen ++ (r.name, d) ∷ []) (λ l on.
          let first : has_key l seen ≡ false = new l (or_right (bytes_eq l r.name) (is_row l rs) on) in
          let second : bytes_eq l r.name ≡ false = apart r.name rs l off on in
          has_key-push l seen (r.name, d) ∙ (rw (first, second) refl)),
    )

-- their values
value_differs : (k : List ℕ) (ms : Pairs) (d : Data) → KeysDifferInMembers ms → value_at k ms ≡ Some d → KeysDiffer d
value_differs k no_members d h e = absurd cc
value_differs k (member l v ms) d h e = by (bytes_eq k l) refl (λ f. value_differs k ms d h.1 f)
  where
    by : (b : Bool) → bytes_eq k l ≡ b → (value_at k ms ≡ Some d → KeysDiffer d) → KeysDiffer d
    by true p rest = let same : v ≡ d = let x = rw p at e in cc in subst KeysDiffer same h.0
    by false p rest = rest (rw p at e)

opt_differs : (k : List ℕ) (o : Option Data) (xs : Members) → ((d : Data) → o ≡ Some d → KeysDiffer d) → KeysDifferInMembers (pairs xs) → KeysDifferInMembers (pairs (opt k o ++ xs))
opt_differs k None xs h e = e
opt_differs k (Some d) xs h e = (h d refl, e)

picked_differ : (rs : List Row) (cs : Pairs) → KeysDifferInMembers cs → KeysDifferInMembers (pairs (picked rs cs))
picked_differ [] cs h = tt
picked_differ (r ∷ rs) cs h = opt_differs r.name (kept r.name (value_at r.name cs)) (picked rs cs) (λ d e. value_differs r.name cs d h (kept_is r.name (value_at r.name cs) d e)) (picked_differ rs cs h)

ordered_differs : (s : Sort) (ms : Pairs) → KeysDifferInMembers (canon_members (shape_in s ms) ms) → KeysDiffer (dict (pairs (picked (shape_in s ms).rows (canon_members (shape_in s ms) ms))))
ordered_differs s ms h = (distinct_picked (shape_in s ms).rows [] (canon_members (shape_in s ms) ms) (shape_differs s (kind_named (value_at (codes "Type") ms))) (λ k on. refl), picked_differ (shape_in s ms).rows (canon_members (shape_in s ms) ms) h)

arranged_differs : (s : Sort) (ms : Pairs) → KeysDiffer (dict ms) → KeysDifferInMembers (canon_members (shape_in s ms) ms) → KeysDiffer (arranged s (shape_in s ms).rows ms (canon_members (shape_in s ms) ms))
arranged_differs sort.Definition ms d h = ordered_differs sort.Definition ms h
arranged_differs sort.Machine ms d h = ordered_differs sort.Machine ms h
arranged_differs sort.ItemProcessor ms d h = ordered_differs sort.ItemProcessor ms h
arranged_differs sort.State ms d h = ordered_differs sort.State ms h
arranged_differs sort.Rule ms d h = ordered_differs sort.Rule ms h
arranged_differs sort.InnerRule ms d h = ordered_differs sort.InnerRule ms h
arranged_differs sort.Retrier ms d h = ordered_differs sort.Retrier ms h
arranged_differs sort.Catcher ms d h = ordered_differs sort.Catcher ms h
arranged_differs sort.States ms d h = (distinct_canon (shape_in sort.States ms) [] [] ms (λ k. refl) d.0, h)
arranged_differs s ms d h = d

listed_differs : (s : Sort) (ds cs : Chain) → KeysDifferInItems ds → KeysDifferInItems cs → KeysDiffer (listed s ds cs)
listed_differs sort.Machines ds cs d h = h
listed_differs sort.Rules ds cs d h = h
listed_differs sort.InnerRules ds cs d h = h
listed_differs sort.Retriers ds cs d h = h
listed_differs sort.Catchers ds cs d h = h
listed_differs s ds cs d h = d

mutual
  pub keys_canon : (s : Sort) (d : Data) → KeysDiffer d → KeysDiffer (canon s d)
  keys_canon s null h = tt
  keys_canon s (boolean b) h = tt
  keys_canon s (number n) h = tt
  keys_canon s (text t) h = tt
  keys_canon s (list ds) h = listed_differs s ds (canon_items (item_sort s) ds) h (items_differ (item_sort s) ds h)
  keys_canon s (dict ms) h = arranged_differs s ms h (members_differ (shape_in s ms) ms h.1)

  items_differ : (s : Sort) (ds : Chain) → KeysDifferInItems ds → KeysDifferInItems (canon_items s ds)
  items_differ s no_items h = tt
  items_differ s (item d ds) h = (keys_canon s d h.0, items_differ s ds h.1)

  members_differ : (sh : Shape) (ms : Pairs) → KeysDifferInMembers ms → KeysDifferInMembers (canon_members sh ms)
  members_differ sh no_members h = tt
  members_differ sh (member k d ms) h = (keys_canon (sort_at sh k) d h.0, members_differ sh ms h.1)
