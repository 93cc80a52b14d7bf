-- What is sound is sound in the newer spelling, and nests as deep.
use Rattle.std.proofs.Common.{◌≡◌, ℕ, suc, List, [], ◌∷◌, ◌++◌, Bool, true, false, ◌||◌, ◌&&◌, not, inl, inr, refl, sym, ap, ◌∙◌, subst, arith, tests}
use Rattle.std.specs.Prelude.{Option, Some, None, nat_le, max, map, codes, if◌then◌else◌}
use Rattle.std.specs.Fmt.{decimal}
use Rattle.std.specs.Str.{IsUtf8}
use Rattle.std.specs.Cmp.Lexicographic.{same_text}
use Rattle.std.proofs.lemmas.Str.{IsUtf8-nil}
use Rattle.asl_check.proofs.Cutting.{utf8_cons}
use Rattle.asl_def_canonical_laws.proofs.Amounts.{both_are}
use Rattle.asl_json_data.specs.Data.{Data, null, boolean, number, text, list, dict, Chain, no_items, item, Pairs, no_members, member, depth, items_depth, members_depth}
use Rattle.asl_json.specs.Same.{bytes_eq}
use Rattle.asl_json.specs.Meaning.{value_at, count}
use Rattle.asl_json_data.specs.Distinct.{Members, has_key, AreDistinct}
use Rattle.asl_json.specs.View.{unpaired}
use Rattle.asl_json.specs.Sound.{IsSound, AreSoundItems, AreSoundMembers, KeysDiffer, KeysDifferInItems, KeysDifferInMembers}
use Rattle.asl_json.proofs.Knowing.{has_key-push}
use Rattle.asl_def_schema.specs.declared.sort.Sort.{Sort}
use Rattle.asl_def_schema.specs.declared.sort.Sort.TheVariants as sort
use Rattle.asl_def_schema.specs.declared.sort.Kind.{Kind}
use Rattle.asl_def_schema.specs.declared.sort.Kind.TheVariants as kind
use Rattle.asl_def_schema.specs.Members.{Group, Shape, shape_in, sort_at, item_sort, state_shape, kind_named, processor_group, selector_group, transition}
use Rattle.asl_def_schema.specs.Claims.{Spot, under, heres, step, demands, claims, at_member, at_item, inside, member_claims, item_claims, row_claims, group_demands, is_object, is_nonempty, counts, any_counts, is_doubled, is_twice}
use Rattle.asl_def_schema.specs.First.{Each, Hold}
use Rattle.asl_def_schema.proofs.Inside.{each_left, each_right, each_under, own_hold, object_hold}
use Rattle.asl_def_schema.proofs.Deciding.{not_true, neither_is}
use Rattle.asl_def.specs.Machines.{holds_states}
use Rattle.asl_def.specs.Upgraded.{newer, renamed, names_map, map_in, newer_value, newer_items, newer_members}
use Rattle.asl_def.proofs.Newer.{by_name, IsOther, other_name, items_leaf, members_leaf, map_shape}
use Rattle.asl_def.proofs.NewerHolds.{Alike, map_counts, alike_push}

-- ---- texts in UTF-8

abbrev are_small : List ℕ → Bool
are_small [] = true
are_small (b ∷ bs) = nat_le b 127 && are_small bs

small_utf8 : (bs : List ℕ) → are_small bs ≡ true → IsUtf8 bs
small_utf8 [] e = IsUtf8-nil
small_utf8 (b ∷ bs) e =
    let both = both_are (nat_le b 127) (are_small bs) e in
    utf8_cons b bs (let small = both.0 in grind (arith, tests, small)) (small_utf8 bs both.1)

newer_utf8 : (k : List ℕ) → IsUtf8 k → IsUtf8 (newer k)
newer_utf8 k h = by_name (λ (m n : List ℕ). IsUtf8 m → IsUtf8 n) (λ u. small_utf8 (codes "ItemProcessor") refl) (λ u. small_utf8 (codes "ItemSelector") refl) (λ m p q u. u) k h

renamed_utf8 : (b : Bool) (k : List ℕ) → IsUtf8 k → IsUtf8 (renamed b k)
renamed_utf8 true k h = newer_utf8 k h
renamed_utf8 false k h = h

mutual
  pub sound_newer : (s : Sort) (d : Data) → IsSound d → IsSound (newer_value s d)
  sound_newer s null h = tt
  sound_newer s (boolean b) h = tt
  sound_newer s (number n) h = h
  sound_newer s (text t) h = h
  sound_newer s (list ds) h = by (holds_states s) (items_sound (item_sort s) ds h)
    where
      by : (b : Bool) → AreSoundItems (newer_items (item_sort s) ds) → IsSound (if b then list (newer_items (item_sort s) ds) else list ds)
      by true k = k
      by false k = h
  sound_newer s (dict ms) h = by (holds_states s) (members_sound (map_in s ms) (shape_in s ms) ms h)
    where
      by : (b : Bool) → AreSoundMembers (newer_members (map_in s ms) (shape_in s ms) ms) → IsSound (if b then dict (newer_members (map_in s ms) (shape_in s ms) ms) else dict ms)
      by true k = k
      by false k = h

  items_sound : (s : Sort) (ds : Chain) → AreSoundItems ds → AreSoundItems (newer_items s ds)
  items_sound s no_items h = tt
  items_sound s (item d ds) h = (sound_newer s d h.0, items_sound s ds h.1)

  members_sound : (b : Bool) (sh : Shape) (ms : Pairs) → AreSoundMembers ms → AreSoundMembers (newer_members b sh ms)
  members_sound b sh no_members h = tt
  members_sound b sh (member k d ms) h = (renamed_utf8 b k h.0, (sound_newer (sort_at sh k) d h.1.0, members_sound b sh ms h.1.1))

-- ---- depth

mutual
  pub depth_newer : (s : Sort) (d : Data) → depth (newer_value s d) ≡ depth d
  depth_newer s null = refl
  depth_newer s (boolean b) = refl
  depth_newer s (number n) = refl
  depth_newer s (text t) = refl
  depth_newer s (list ds) = by (holds_states s) (items_deep (item_sort s) ds)
    where
      by : (b : Bool) → items_depth (newer_items (item_sort s) ds) ≡ items_depth ds → depth (if b then list (newer_items (item_sort s) ds) else list ds) ≡ suc (items_depth ds)
      by true k = ap suc k
      by false k = refl
  depth_newer s (dict ms) = by (holds_states s) (members_deep (map_in s ms) (shape_in s ms) ms)
    where
      by : (b : Bool) → members_depth (newer_members (map_in s ms) (shape_in s ms) ms) ≡ members_depth ms → depth (if b then dict (newer_members (map_in s ms) (shape_in s ms) ms) else dict ms) ≡ suc (members_depth ms)
      by true k = ap suc k
      by false k = refl

  items_deep : (s : Sort) (ds : Chain) → items_depth (newer_items s ds) ≡ items_depth ds
  items_deep s no_items = refl
  items_deep s (item d ds) = let first = depth_newer s d in let others = items_deep s ds in λ i. max (first i) (others i)

  members_deep : (b : Bool) (sh : Shape) (ms : Pairs) → members_depth (newer_members b sh ms) ≡ members_depth ms
  members_deep b sh no_members = refl
  members_deep b sh (member k d ms) = let first = depth_newer (sort_at sh k) d in let others = members_deep b sh ms in λ i. max (first i) (others i)

-- ---- keys

-- members whose keys stay

same_push : (old new : Members) (k : List ℕ) (d e : Data) → ((l : List ℕ) → has_key l new ≡ has_key l old) → (l : List ℕ) → has_key l (new ++ (k, e) ∷ []) ≡ has_key l (old ++ (k, d) ∷ [])
same_push old new k d e h l = has_key-push l new (k, e) ∙ ap (λ (b : Bool). b || bytes_eq l k) (h l) ∙ sym (has_key-push l old (k, d))

keys_same : (sh : Shape) (old new : Members) (ms : Pairs) → ((l : List ℕ) → has_key l new ≡ has_key l old) → AreDistinct old (unpaired ms) → AreDistinct new (unpaired (newer_members false sh ms))
keys_same sh old new no_members h d = tt
keys_same sh old new (member k v ms) h d = (h k ∙ d.0, keys_same sh (old ++ (k, v) ∷ []) (new ++ (k, newer_value (sort_at sh k) v) ∷ []) ms (same_push old new k v (newer_value (sort_at sh k) v) h) d.1)

-- the members of a Map

-- a key of a group, but for End, counts
abbrev IsKeyOf : Group → List ℕ → Type 0
IsKeyOf g k = (d : Data) → counts g k d ≡ true

key_counts : (g : Group) (k : List ℕ) → IsKeyOf g k → (ms : Members) → any_counts g ms ≡ false → has_key k ms ≡ false
key_counts g k is [] e = refl
key_counts g k is (m ∷ ms) e = by (bytes_eq k m.0) refl (key_counts g k is ms (neither_is (counts g m.0 m.1) (any_counts g ms) e).1)
  where
    by : (b : Bool) → bytes_eq k m.0 ≡ b → has_key k ms ≡ false → (b || has_key k ms) ≡ false
    by true p rest = absurd (let on : counts g m.0 m.1 ≡ true = subst (λ (l : List ℕ). counts g l m.1 ≡ true) (same_text k m.0 (sym p)) (is m.1) in let off = (neither_is (counts g m.0 m.1) (any_counts g ms) e).0 in let x : true ≡ false = sym on ∙ off in cc)
    by false p rest = rest

-- what stands before has the same keys, but for those that change, and counts in the same groups
record Follows (old new : Members) : Type 0 where
  others : (l : List ℕ) → IsOther true l → has_key l new ≡ has_key l old
  groups : Alike map_shape old new

follows_push : (old new : Members) (k : List ℕ) (s : Sort) (d : Data) → Follows old new → Follows (old ++ (k, d) ∷ []) (new ++ (newer k, newer_value s d) ∷ [])
follows_push old new k s d f = record {
  others = λ l h. has_key-push l new (newer k, newer_value s d) ∙ (λ i. f.others l h i || other_name true l k h i) ∙ sym (has_key-push l old (k, d));
  groups = alike_push true map_shape old new k s d map_counts f.groups;
}

-- a name that changes, or that one changes to, is the first of its group
first_of : (g : Group) (old new : Members) (k l : List ℕ) (d : Data) (rest : Bool) → counts g k d ≡ true → IsKeyOf g l → any_counts g new ≡ any_counts g old → ((counts g k d && any_counts g old) || rest) ≡ false → has_key l new ≡ false
first_of g old new k l d rest on is alike e =
    let off : any_counts g old ≡ false = ap (λ (b : Bool). b && any_counts g old) (sym on) ∙ (neither_is (counts g k d && any_counts g old) rest e).0 in
    key_counts g l is new (alike ∙ off)

processor_first : (old new : Members) (k l : List ℕ) (d : Data) → counts processor_group k d ≡ true → IsKeyOf processor_group l → Follows old new → is_doubled map_shape.groups old k d ≡ false → has_key l new ≡ false
processor_first old new k l d on is f e = first_of processor_group old new k l d (is_doubled (selector_group ∷ transition ∷ []) old k d) on is (f.groups processor_group (inl refl)) e

selector_first : (old new : Members) (k l : List ℕ) (d : Data) → counts selector_group k d ≡ true → IsKeyOf selector_group l → Follows old new → is_doubled map_shape.groups old k d ≡ false → has_key l new ≡ false
selector_first old new k l d on is f e =
    first_of selector_group old new k l d (is_doubled (transition ∷ []) old k d) on is (f.groups selector_group (inr (inl refl)))
    (neither_is (counts processor_group k d && any_counts processor_group old) (is_doubled (selector_group ∷ transition ∷ []) old k d) e).1

fresh : (old new : Members) (k : List ℕ) (d : Data) → Follows old new → has_key k old ≡ false → is_doubled map_shape.groups old k d ≡ false → has_key (newer k) new ≡ false
fresh old new k d f apart single =
    by_name (λ (m n : List ℕ). has_key m old ≡ false → is_doubled map_shape.groups old m d ≡ false → has_key n new ≡ false)
    (λ a e. processor_first old new (codes "Iterator") (codes "ItemProcessor") d refl (λ x. refl) f e)
    (λ a e. selector_first old new (codes "Parameters") (codes "ItemSelector") d refl (λ x. refl) f e)
    (λ m p q a e. stays m (bytes_eq m (codes "ItemProcessor")) (bytes_eq m (codes "ItemSelector")) p q refl refl a e)
    k apart single
  where
    stays : (m : List ℕ) (x y : Bool) → bytes_eq m (codes "Iterator") ≡ false → bytes_eq m (codes "Parameters") ≡ false → bytes_eq m (codes "ItemProcessor") ≡ x → bytes_eq m (codes "ItemSelector") ≡ y → has_key m old ≡ false → is_doubled map_shape.groups old m d ≡ false → has_key m new ≡ false
    stays m true y p q r t a e =
        let is : codes "ItemProcessor" ≡ m = sym (same_text m (codes "ItemProcessor") (sym r)) in
        subst (λ (l : List ℕ). is_doubled map_shape.groups old l d ≡ false → has_key l new ≡ false) is
        (λ g. processor_first old new (codes "ItemProcessor") (codes "ItemProcessor") d refl (λ z. refl) f g) e
    stays m false true p q r t a e =
        let is : codes "ItemSelector" ≡ m = sym (same_text m (codes "ItemSelector") (sym t)) in
        subst (λ (l : List ℕ). is_doubled map_shape.groups old l d ≡ false → has_key l new ≡ false) is
        (λ g. selector_first old new (codes "ItemSelector") (codes "ItemSelector") d refl (λ z. refl) f g) e
    stays m false false p q r t a e = f.others m (λ i. p i || (r i || (q i || (t i || false)))) ∙ a

keys_map : (p : Spot) (old new : Members) (i : ℕ) (ms : Pairs) → Follows old new → AreDistinct old (unpaired ms) → Each Hold (member_claims p map_shape old i ms) → AreDistinct new (unpaired (newer_members true map_shape ms))
keys_map p old new i no_members f d h = tt
keys_map p old new i (member k v ms) f d h =
    let spot = at_member p map_shape old k v in
    let part = map (under (step i k)) (claims spot (sort_at map_shape k) v) in
    let rest = member_claims p map_shape (old ++ (k, v) ∷ []) (suc i) ms in
    let own = each_under (step i k) (claims spot (sort_at map_shape k) v) (each_left Hold part rest h) in
    let single = (neither_is (is_doubled map_shape.groups old k v) (is_twice map_shape.others old k) (not_true spot.doubled (own_hold spot (sort_at map_shape k) v own).0)).0 in
    (fresh old new k v f d.0 single, keys_map p (old ++ (k, v) ∷ []) (new ++ (newer k, newer_value (sort_at map_shape k) v) ∷ []) (suc i) ms (follows_push old new k (sort_at map_shape k) v f) d.1 (each_right Hold part rest h))

members_of : (p : Spot) (s : Sort) (ms : Pairs) → is_object s ≡ true → Each Hold (claims p s (dict ms)) → Each Hold (member_claims (inside p s ms) (shape_in s ms) [] 0 ms)
members_of p s ms e h =
    let sh = shape_in s ms in
    let others = each_right Hold (heres (group_demands sh.groups ms)) (member_claims (inside p s ms) sh [] 0 ms ++ row_claims (count ms) sh.rows ms) (object_hold p s ms e h) in
    each_left Hold (member_claims (inside p s ms) sh [] 0 ms) (row_claims (count ms) sh.rows ms) others

same_keys : (sh : Shape) (ms : Pairs) → AreDistinct [] (unpaired ms) → AreDistinct [] (unpaired (newer_members false sh ms))
same_keys sh ms d = keys_same sh [] [] ms (λ l. refl) d

state_keys : (p : Spot) (ms : Pairs) (o : Option Kind) → AreDistinct [] (unpaired ms) → Each Hold (member_claims p (state_shape o) [] 0 ms) → AreDistinct [] (unpaired (newer_members (names_map o) (state_shape o) ms))
state_keys p ms None d h = same_keys (state_shape None) ms d
state_keys p ms (Some kind.Task) d h = same_keys (state_shape (Some kind.Task)) ms d
state_keys p ms (Some kind.Pass) d h = same_keys (state_shape (Some kind.Pass)) ms d
state_keys p ms (Some kind.Choice) d h = same_keys (state_shape (Some kind.Choice)) ms d
state_keys p ms (Some kind.Wait) d h = same_keys (state_shape (Some kind.Wait)) ms d
state_keys p ms (Some kind.Parallel) d h = same_keys (state_shape (Some kind.Parallel)) ms d
state_keys p ms (Some kind.Map) d h = keys_map p [] [] 0 ms (record { others = λ l e. refl; groups = λ g at. refl }) d h
state_keys p ms (Some kind.Succeed) d h = same_keys (state_shape (Some kind.Succeed)) ms d
state_keys p ms (Some kind.Fail) d h = same_keys (state_shape (Some kind.Fail)) ms d

dict_keys : (p : Spot) (s : Sort) (ms : Pairs) → KeysDiffer (dict ms) → Each Hold (claims p s (dict ms)) → (is_object s ≡ true → KeysDifferInMembers (newer_members (map_in s ms) (shape_in s ms) ms)) → KeysDiffer (newer_value s (dict ms))
dict_keys p sort.Definition ms k h rest = (same_keys (shape_in sort.Definition ms) ms k.0, rest refl)
dict_keys p sort.Machine ms k h rest = (same_keys (shape_in sort.Machine ms) ms k.0, rest refl)
dict_keys p sort.ItemProcessor ms k h rest = (same_keys (shape_in sort.ItemProcessor ms) ms k.0, rest refl)
dict_keys p sort.States ms k h rest = (same_keys (shape_in sort.States ms) ms k.0, rest refl)
dict_keys p sort.State ms k h rest = (state_keys p ms (kind_named (value_at (codes "Type") ms)) k.0 (members_of p sort.State ms refl h), rest refl)
dict_keys p sort.Machines ms k h rest = subst (λ (x : Pairs). KeysDiffer (dict x)) (sym (members_leaf (shape_in sort.Machines ms) ms (λ l. refl))) k
dict_keys p s ms k h rest = k

list_keys : (p : Spot) (s : Sort) (ds : Chain) → KeysDifferInItems ds → Each Hold (claims p s (list ds)) → (Each Hold (item_claims p sort.Machine 0 ds) → KeysDifferInItems (newer_items sort.Machine ds)) → KeysDiffer (newer_value s (list ds))
list_keys p sort.Machines ds k h rest = rest (each_right Hold (heres (demands p sort.Machines (list ds))) (item_claims p sort.Machine 0 ds) h)
list_keys p sort.Definition ds k h rest = subst KeysDifferInItems (sym (items_leaf sort.Any ds refl)) k
list_keys p sort.Machine ds k h rest = subst KeysDifferInItems (sym (items_leaf sort.Any ds refl)) k
list_keys p sort.ItemProcessor ds k h rest = subst KeysDifferInItems (sym (items_leaf sort.Any ds refl)) k
list_keys p sort.States ds k h rest = subst KeysDifferInItems (sym (items_leaf sort.Any ds refl)) k
list_keys p sort.State ds k h rest = subst KeysDifferInItems (sym (items_leaf sort.Any ds refl)) k
list_keys p s ds k h rest = k

mutual
  pub keys_newer : (p : Spot) (s : Sort) (d : Data) → KeysDiffer d → Each Hold (claims p s d) → KeysDiffer (newer_value s d)
  keys_newer p s null k h = tt
  keys_newer p s (boolean b) k h = tt
  keys_newer p s (number n) k h = tt
  keys_newer p s (text t) k h = tt
  keys_newer p s (list ds) k h = list_keys p s ds k h (λ g. items_keys p sort.Machine 0 ds k g)
  keys_newer p s (dict ms) k h = dict_keys p s ms k h (λ e. members_keys (inside p s ms) (map_in s ms) (shape_in s ms) [] 0 ms k.1 (members_of p s ms e h))

  items_keys : (p : Spot) (s : Sort) (i : ℕ) (ds : Chain) → KeysDifferInItems ds → Each Hold (item_claims p s i ds) → KeysDifferInItems (newer_items s ds)
  items_keys p s i no_items k h = tt
  items_keys p s i (item d ds) k h =
      let place = step i (decimal i) in
      let spot = at_item p (not (is_nonempty ds)) in
      let part = map (under place) (claims spot s d) in
      let rest = item_claims p s (suc i) ds in
      (keys_newer spot s d k.0 (each_under place (claims spot s d) (each_left Hold part rest h)), items_keys p s (suc i) ds k.1 (each_right Hold part rest h))

  members_keys : (p : Spot) (b : Bool) (sh : Shape) (seen : Members) (i : ℕ) (ms : Pairs) → KeysDifferInMembers ms → Each Hold (member_claims p sh seen i ms) → KeysDifferInMembers (newer_members b sh ms)
  members_keys p b sh seen i no_members k h = tt
  members_keys p b sh seen i (member l d ms) k h =
      let spot = at_member p sh seen l d in
      let part = map (under (step i l)) (claims spot (sort_at sh l) d) in
      let rest = member_claims p sh (seen ++ (l, d) ∷ []) (suc i) ms in
      let own = each_under (step i l) (claims spot (sort_at sh l) d) (each_left Hold part rest h) in
      (keys_newer spot (sort_at sh l) d k.0 own, members_keys p b sh (seen ++ (l, d) ∷ []) (suc i) ms k.1 (each_right Hold part rest h))
