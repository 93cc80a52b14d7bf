-- Values that are the same have one mark.
use Rattle.std.proofs.Common.{◌≡◌, ◌≢◌, ℕ, suc, ℤ, ◌+◌, ◌<◌, ◌≤◌, ◌%◌, Bool, true, false, cond, ◌&&◌, ◌||◌, ◌==◌, Option, Some, None, List, [], ◌∷◌, ◌++◌, refl, sym, ap, subst, ◌∙◌, append_assoc, arith}
use Rattle.std.proofs.Math.Nat.{mod-add-mod}
use Rattle.std.proofs.lemmas.Bool.{eqb-true}
use Rattle.std.proofs.lemmas.Bool.Decides.{Decides-int_eq}
use Rattle.std.specs.Int.RustNames.{unsigned_abs}
use Rattle.std.specs.Option.{option_map_or}
use Rattle.std.specs.Cmp.Lexicographic.{same_text}
use Rattle.asl_json_data.specs.Data.{Data, null, boolean, number, text, list, dict, Chain, no_items, item, Pairs, no_members, member, chain, pairs, items_depth, members_depth}
use Rattle.asl_json_data.specs.Distinct.{Members, has_key, AreDistinct}
use Rattle.asl_json.specs.Meaning.{count, value_at, same, same_items, each_in}
use Rattle.asl_json_data.specs.Number.{units_of}
use Rattle.asl_json.specs.Same.{bool_eq, bytes_eq}
use Rattle.asl_json.specs.private.SameLaws.{bytes_refl}
use Rattle.asl_intrinsic_functions.specs.declared.mark.TheConstants.{MODULUS, TRUE, FALSE, TEXT, LIST, DICT}
use Rattle.asl_intrinsic_functions.specs.private.Marks.{blended, joined, added, text_mark, mark, items_mark, members_mark, IsApart, AreApart, HasApart}

abbrev of_member : List ℕ → Data → ℕ
of_member k d = joined (text_mark TEXT k) (mark d)

-- ---- gone through

abbrev pub ItemsLeft : ℕ → List Data → List Data → Type 0
ItemsLeft h rest all = (items_mark h (chain rest) ≡ items_mark LIST (chain all)) × (h < MODULUS) × (items_depth (chain rest) ≤ items_depth (chain all)) × (AreApart (chain rest) → AreApart (chain all))

pub next_item : (h x n : ℕ) (d : Data) (rest all : List Data) → ItemsLeft h (d ∷ rest) all → x ≡ mark d → IsApart d → n ≡ blended h x → n < MODULUS → ItemsLeft n rest all
next_item h x n d rest all left is apart next below = (
  ap (λ (z : ℕ). items_mark z (chain rest)) (next ∙ ap (blended h) is) ∙ left.0,
  below,
  omega (arith, left.2),
  λ later. left.3 (apart, later),
)

-- the values of an object's members are apart
abbrev pub AreValuesApart : List (List ℕ × Data) → Type 0
AreValuesApart [] = Unit {0}
AreValuesApart (m ∷ ms) = IsApart m.1 × AreValuesApart ms

abbrev pub MembersLeft : ℕ → List (List ℕ × Data) → List (List ℕ × Data) → Type 0
MembersLeft h rest all = (members_mark h (pairs rest) ≡ members_mark DICT (pairs all)) × (h < MODULUS) × (members_depth (pairs rest) ≤ members_depth (pairs all)) × (AreValuesApart rest → AreValuesApart all)

pub next_member : (h x y z n : ℕ) (m : List ℕ × Data) (rest all : List (List ℕ × Data)) → MembersLeft h (m ∷ rest) all → x ≡ text_mark TEXT m.0 → y ≡ mark m.1 → IsApart m.1 → z ≡ joined x y → n ≡ added h z → n < MODULUS → MembersLeft n rest all
next_member h x y z n m rest all left key value apart both next below = (
  ap (λ (w : ℕ). members_mark w (pairs rest)) (next ∙ ap (added h) (both ∙ ap (λ (w : ℕ). joined w y) key ∙ ap (joined (text_mark TEXT m.0)) value)) ∙ left.0,
  below,
  omega (arith, left.2),
  λ later. left.3 (apart, later),
)

-- ---- no key twice

has_middle : (front back : Members) (m : List ℕ × Data) → has_key m.0 (front ++ m ∷ back) ≡ true
has_middle [] back m = ap (λ (b : Bool). b || has_key m.0 back) (bytes_refl m.0)
has_middle (x ∷ front) back m = ap (λ (b : Bool). bytes_eq m.0 x.0 || b) (has_middle front back m) ∙ or_on (bytes_eq m.0 x.0)
  where
    or_on : (a : Bool) → (a || true) ≡ true
    or_on true = refl
    or_on false = refl

pub value_new : (front back ms : Members) (m : List ℕ × Data) → AreDistinct (front ++ m ∷ back) ms → value_at m.0 (pairs ms) ≡ None
value_new front back [] m distinct = refl
value_new front back (x ∷ ms) m distinct = by (bytes_eq m.0 x.0) refl (value_new front (back ++ x ∷ []) ms m (rw append_assoc at distinct.1))
  where
    by : (b : Bool) → bytes_eq m.0 x.0 ≡ b → value_at m.0 (pairs ms) ≡ None → value_at m.0 (pairs (x ∷ ms)) ≡ None
    by true is later =
        let there : has_key x.0 (front ++ m ∷ back) ≡ true = subst (λ (k : List ℕ). has_key k (front ++ m ∷ back) ≡ true) (same_text m.0 x.0 (sym is)) (has_middle front back m) in
        let new : has_key x.0 (front ++ m ∷ back) ≡ false = distinct.0 in
        absurd cc
    by false is later = ap (λ (b : Bool). cond b (Some x.1) (value_at m.0 (pairs ms))) is ∙ later

apart_from : (seen ms : Members) → AreDistinct seen ms → AreValuesApart ms → HasApart (pairs ms)
apart_from seen [] distinct apart = tt
apart_from seen (m ∷ ms) distinct apart = (value_new seen [] ms m distinct.1, (apart.0, apart_from (seen ++ m ∷ []) ms distinct.1 apart.1))

pub apart_members : (ms : Members) → AreDistinct [] ms → AreValuesApart ms → HasApart (pairs ms)
apart_members = apart_from []

-- ---- members in any order

swapped : (h x y : ℕ) → added (added h x) y ≡ added (added h y) x
unfolding added
swapped h x y =
    let over : h + x + y ≡ h + y + x = omega arith in
    mod-add-mod (h + x) MODULUS y ∙ ap (λ (n : ℕ). n % MODULUS) over ∙ sym (mod-add-mod (h + y) MODULUS x)

-- the members without that of a key
abbrev without : List ℕ → Pairs → Pairs
without k no_members = no_members
without k (member l d ms) = cond (bytes_eq k l) ms (member l d (without k ms))

pub value_behind : (b : Bool) (k l : List ℕ) (d : Data) (ms : Pairs) → bytes_eq k l ≡ b → value_at k (member l d ms) ≡ cond b (Some d) (value_at k ms)
value_behind b k l d ms is = ap (λ z. cond z (Some d) (value_at k ms)) is

without_behind : (b : Bool) (k l : List ℕ) (d : Data) (ms : Pairs) → bytes_eq k l ≡ b → without k (member l d ms) ≡ cond b ms (member l d (without k ms))
without_behind b k l d ms is = ap (λ z. cond z ms (member l d (without k ms))) is

some : (d e : Data) → Some d ≡ Some e → d ≡ e
some d e h = cc

-- a member may come first
taken_out : (k : List ℕ) (e : Data) (ms : Pairs) (h : ℕ) → value_at k ms ≡ Some e → members_mark h ms ≡ members_mark (added h (of_member k e)) (without k ms)
taken_out k e no_members h at = absurd cc
taken_out k e (member l d ms) h at = by (bytes_eq k l) refl (taken_out k e ms (added h (of_member l d)))
  where
    by : (b : Bool) → bytes_eq k l ≡ b → (value_at k ms ≡ Some e → members_mark (added h (of_member l d)) ms ≡ members_mark (added (added h (of_member l d)) (of_member k e)) (without k ms)) → members_mark h (member l d ms) ≡ members_mark (added h (of_member k e)) (without k (member l d ms))
    by true is again =
        let value : d ≡ e = some d e (sym (value_behind true k l d ms is) ∙ at) in
        ap (λ (x : List ℕ). members_mark (added h (of_member x d)) ms) (sym (same_text k l (sym is)))
        ∙ ap (λ (x : Data). members_mark (added h (of_member k x)) ms) value
        ∙ ap (members_mark (added h (of_member k e))) (sym (without_behind true k l d ms is))
    by false is again =
        again (sym (value_behind false k l d ms is) ∙ at)
        ∙ ap (λ (n : ℕ). members_mark n (without k ms)) (swapped h (of_member l d) (of_member k e))
        ∙ ap (members_mark (added h (of_member k e))) (sym (without_behind false k l d ms is))

count_without : (k : List ℕ) (e : Data) (ms : Pairs) → value_at k ms ≡ Some e → count ms ≡ suc (count (without k ms))
count_without k e no_members at = absurd cc
count_without k e (member l d ms) at = by (bytes_eq k l) refl (count_without k e ms)
  where
    by : (b : Bool) → bytes_eq k l ≡ b → (value_at k ms ≡ Some e → count ms ≡ suc (count (without k ms))) → count (member l d ms) ≡ suc (count (without k (member l d ms)))
    by true is again = ap (λ (x : Pairs). suc (count x)) (sym (without_behind true k l d ms is))
    by false is again = ap suc (again (sym (value_behind false k l d ms is) ∙ at)) ∙ ap (λ (x : Pairs). suc (count x)) (sym (without_behind false k l d ms is))

-- another key's value stays
value_without : (k l : List ℕ) (ms : Pairs) → bytes_eq l k ≡ false → value_at l (without k ms) ≡ value_at l ms
value_without k l no_members ne = refl
value_without k l (member m d ms) ne = by (bytes_eq k m) refl (value_without k l ms ne)
  where
    by : (b : Bool) → bytes_eq k m ≡ b → value_at l (without k ms) ≡ value_at l ms → value_at l (without k (member m d ms)) ≡ value_at l (member m d ms)
    by true is again =
        let other : bytes_eq l m ≡ false = subst (λ (x : List ℕ). bytes_eq l x ≡ false) (same_text k m (sym is)) ne in
        ap (value_at l) (without_behind true k m d ms is) ∙ sym (value_behind false l m d ms other)
    by false is again = ap (value_at l) (without_behind false k m d ms is) ∙ ap (λ (o : Option Data). cond (bytes_eq l m) (Some d) o) again

unlike : (k l : List ℕ) → bytes_eq k l ≡ false → bytes_eq l k ≡ false
unlike k l ne = by (bytes_eq l k) refl
  where
    by : (b : Bool) → bytes_eq l k ≡ b → bytes_eq l k ≡ false
    by true is = let like : bytes_eq k l ≡ true = subst (λ (x : List ℕ). bytes_eq x l ≡ true) (same_text l k (sym is)) (bytes_refl l) in absurd cc
    by false is = is

pub both : (a b : Bool) → (a && b) ≡ true → (a ≡ true) × (b ≡ true)
both true b e = (refl, e)
both false b e = absurd cc

-- each of these members is there without that of a key that they haven't
each_without : (k : List ℕ) (ms ns : Pairs) → value_at k ms ≡ None → each_in ms ns ≡ true → each_in ms (without k ns) ≡ true
each_without k no_members ns new e = refl
each_without k (member l d ms) ns new e = by (bytes_eq k l) refl (each_without k ms ns)
  where
    by : (b : Bool) → bytes_eq k l ≡ b → (value_at k ms ≡ None → each_in ms ns ≡ true → each_in ms (without k ns) ≡ true) → each_in (member l d ms) (without k ns) ≡ true
    by true is again = let there : Some d ≡ None = sym (value_behind true k l d ms is) ∙ new in absurd cc
    by false is again =
        let parts = both (option_map_or (same d) (value_at l ns) false) (each_in ms ns) e in
        ap (λ (o : Option Data). option_map_or (same d) o false && each_in ms (without k ns)) (value_without k l ns (unlike k l is))
        ∙ ap (λ (b : Bool). b && each_in ms (without k ns)) parts.0
        ∙ again (sym (value_behind false k l d ms is) ∙ new) parts.1

pub partner : (d : Data) (o : Option Data) → option_map_or (same d) o false ≡ true → (e : Data) × ((o ≡ Some e) × (same d e ≡ true))
partner d None h = absurd cc
partner d (Some e) h = (e, (refl, h))

no_more : (h : ℕ) (ns : Pairs) → 0 ≡ count ns → h ≡ members_mark h ns
no_more h no_members e = refl
no_more h (member k d ms) e = absurd (omega arith)

-- ---- the law

pub of_truth : (a b : Bool) → bool_eq a b ≡ true → a ≡ b
of_truth true true e = refl
of_truth false false e = refl
of_truth true false e = absurd cc
of_truth false true e = absurd cc

mutual
  pub same_marks : (d e : Data) → IsApart d → same d e ≡ true → mark d ≡ mark e
  same_marks null null apart h = refl
  same_marks (boolean b) (boolean c) apart h = ap (λ (x : Bool). cond x TRUE FALSE) (of_truth b c h)
  same_marks (number s) (number t) apart h = ap (λ (z : ℤ). unsigned_abs z % MODULUS) ((Decides-int_eq (units_of s) (units_of t)).0 h)
  same_marks (text s) (text t) apart h = ap (text_mark TEXT) (same_text s t (sym h))
  same_marks (list ds) (list es) apart h = same_items_marks ds es LIST apart h
  same_marks (dict ms) (dict ns) apart h = let parts = both (count ms == count ns) (each_in ms ns) h in same_members_marks ms ns DICT apart (eqb-true (count ms) (count ns) parts.0) parts.1
  same_marks x y apart h = absurd cc

  same_items_marks : (ds es : Chain) (h : ℕ) → AreApart ds → same_items ds es ≡ true → items_mark h ds ≡ items_mark h es
  same_items_marks no_items no_items h apart e = refl
  same_items_marks no_items (item f fs) h apart e = absurd cc
  same_items_marks (item d ds) no_items h apart e = absurd cc
  same_items_marks (item d ds) (item f fs) h apart e =
      let parts = both (same d f) (same_items ds fs) e in
      ap (λ (x : ℕ). items_mark (blended h x) ds) (same_marks d f apart.0 parts.0) ∙ same_items_marks ds fs (blended h (mark f)) apart.1 parts.1

  same_members_marks : (ms ns : Pairs) (h : ℕ) → HasApart ms → count ms ≡ count ns → each_in ms ns ≡ true → members_mark h ms ≡ members_mark h ns
  same_members_marks no_members ns h apart counts e = no_more h ns counts
  same_members_marks (member k d ms) ns h apart counts e =
      let parts = both (option_map_or (same d) (value_at k ns) false) (each_in ms ns) e in
      let like = partner d (value_at k ns) parts.0 in
      let fewer : count ms ≡ count (without k ns) = omega (arith, counts, count_without k like.0 ns like.1.0) in
      ap (λ (x : ℕ). members_mark (added h (joined (text_mark TEXT k) x)) ms) (same_marks d like.0 apart.1.0 like.1.1)
      ∙ same_members_marks ms (without k ns) (added h (of_member k like.0)) apart.1.1 fewer (each_without k ms ns apart.0 parts.1)
      ∙ sym (taken_out k like.0 ns h like.1.0)

pub unlike_marks : (d e : Data) (m n : ℕ) → m ≡ mark d → n ≡ mark e → IsApart d → m ≢ n → same d e ≡ false
unlike_marks d e m n is at apart ne = by (same d e) refl
  where
    by : (b : Bool) → same d e ≡ b → same d e ≡ false
    by true like = absurd (ne (is ∙ same_marks d e apart like ∙ sym at))
    by false unlike = unlike
