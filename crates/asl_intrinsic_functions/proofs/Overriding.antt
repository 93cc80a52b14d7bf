-- What members become where others are put in, one after another.
use Rattle.std.proofs.Common.{◌≡◌, ℕ, Bool, true, false, cond, ◌||◌, List, [], ◌∷◌, ◌++◌, map, Option, Some, None, refl, sym, ap, ◌∙◌, append_assoc}
use Rattle.std.specs.Prelude.{not, if◌then◌else◌}
use Rattle.std.proofs.lemmas.List.{append-nil}
use Rattle.std.specs.List.{filter}
use Rattle.std.specs.Option.{unwrap_or}
use Rattle.std.specs.Cmp.Lexicographic.{same_text}
use Rattle.asl_json.proofs.Knowing.{bytes_eq-flip}
use Rattle.asl_json_data.specs.Data.{Data, pairs}
use Rattle.asl_json_data.specs.Distinct.{Members, has_key, AreDistinct}
use Rattle.asl_json.specs.Meaning.{value_at}
use Rattle.asl_json.specs.Same.{bytes_eq}
use Rattle.asl_intrinsic_functions.specs.Merge.{overridden, merged}
use Rattle.asl_intrinsic_functions.specs.private.Loops.{with_member, put_in}
use Rattle.asl_intrinsic_functions.proofs.Marking.{value_new}

off : (a : Bool) → (a || false) ≡ a
off true = refl
off false = refl

neither : (a b : Bool) → (a || b) ≡ false → (a ≡ false) × (b ≡ false)
neither true b e = absurd (cc)
neither false b e = (refl, e)

-- ---- no key twice

abbrev pub AreOnce : Members → Type 0
AreOnce [] = Unit {0}
AreOnce (m ∷ ms) = (has_key m.0 ms ≡ false) × AreOnce ms

key_valued : (k : List ℕ) (ms : Members) → has_key k ms ≡ false → value_at k (pairs ms) ≡ None
key_valued k [] e = refl
key_valued k (m ∷ ms) e = let parts = neither (bytes_eq k m.0) (has_key k ms) e in ap (λ (b : Bool). cond b (Some m.1) (value_at k (pairs ms))) parts.0 ∙ key_valued k ms parts.1

no_value : (k : List ℕ) (ms : Members) → value_at k (pairs ms) ≡ None → has_key k ms ≡ false
no_value k [] e = refl
no_value k (m ∷ ms) e = by (bytes_eq k m.0) refl (no_value k ms)
  where
    by : (b : Bool) → bytes_eq k m.0 ≡ b → (value_at k (pairs ms) ≡ None → has_key k ms ≡ false) → (bytes_eq k m.0 || has_key k ms) ≡ false
    by true is again = let there : Some m.1 ≡ None = sym (ap (λ (b : Bool). cond b (Some m.1) (value_at k (pairs ms))) is) ∙ e in absurd cc
    by false is again = ap (λ (b : Bool). b || has_key k ms) is ∙ again (sym (ap (λ (b : Bool). cond b (Some m.1) (value_at k (pairs ms))) is) ∙ e)

once_behind : (seen ms : Members) → AreDistinct seen ms → AreOnce ms
once_behind seen [] h = tt
once_behind seen (m ∷ ms) h = (no_value m.0 ms (value_new seen [] ms m h.1), once_behind (seen ++ m ∷ []) ms h.1)

-- ---- one member put in

has_with : (k l : List ℕ) (d : Data) (ms : Members) → has_key k (with_member ms l d) ≡ (has_key k ms || bytes_eq k l)
has_with k l d [] = off (bytes_eq k l)
has_with k l d (m ∷ ms) = by (bytes_eq l m.0) refl (has_with k l d ms)
  where
    over : (a b : Bool) → (a || b) ≡ ((a || b) || a)
    over true b = refl
    over false true = refl
    over false false = refl

    regroup : (a b c : Bool) → (a || (b || c)) ≡ ((a || b) || c)
    regroup true b c = refl
    regroup false b c = refl

    by : (b : Bool) → bytes_eq l m.0 ≡ b → has_key k (with_member ms l d) ≡ (has_key k ms || bytes_eq k l) → has_key k (with_member (m ∷ ms) l d) ≡ (has_key k (m ∷ ms) || bytes_eq k l)
    by true is again = rw is (over (bytes_eq k m.0) (has_key k ms) ∙ ap (λ (x : List ℕ). (bytes_eq k m.0 || has_key k ms) || bytes_eq k x) (sym (same_text l m.0 (sym is))))
    by false is again = rw is (ap (λ (b : Bool). bytes_eq k m.0 || b) again ∙ regroup (bytes_eq k m.0) (has_key k ms) (bytes_eq k l))

once_with : (l : List ℕ) (d : Data) (ms : Members) → AreOnce ms → AreOnce (with_member ms l d)
once_with l d [] h = (refl, tt)
once_with l d (m ∷ ms) h = by (bytes_eq l m.0) refl (once_with l d ms h.1)
  where
    by : (b : Bool) → bytes_eq l m.0 ≡ b → AreOnce (with_member ms l d) → AreOnce (with_member (m ∷ ms) l d)
    by true is again = rw is (h.0, h.1)
    by false is again = rw is ((has_with m.0 l d ms ∙ (λ i. h.0 i || (bytes_eq-flip m.0 l ∙ is) i)), again)

-- ---- the members as others override them

same_value : (n : List ℕ × Data) (ns ms : Members) → has_key n.0 ms ≡ false → map (overridden (n ∷ ns)) ms ≡ map (overridden ns) ms
same_value n ns [] h = refl
same_value n ns (m ∷ ms) h =
    let parts = neither (bytes_eq n.0 m.0) (has_key n.0 ms) h in
    λ i. (m.0, unwrap_or (cond ((bytes_eq-flip m.0 n.0 ∙ parts.0) i) (Some n.1) (value_at m.0 (pairs ns))) m.1) ∷ same_value n ns ms parts.1 i

-- itself, where they haven't its key
unless_there : Members → List ℕ × Data → Members
unless_there ms n = if has_key n.0 ms then [] else n ∷ []

override_with : (n : List ℕ × Data) (ns ms : Members) → has_key n.0 ns ≡ false → AreOnce ms → map (overridden ns) (with_member ms n.0 n.1) ≡ map (overridden (n ∷ ns)) ms ++ unless_there ms n
unfolding unless_there
override_with n ns [] new once = ap (λ (o : Option Data). (n.0, unwrap_or o n.1) ∷ []) (key_valued n.0 ns new)
override_with n ns (m ∷ ms) new once = by (bytes_eq n.0 m.0) refl (override_with n ns ms new once.1)
  where
    by : (b : Bool) → bytes_eq n.0 m.0 ≡ b → map (overridden ns) (with_member ms n.0 n.1) ≡ map (overridden (n ∷ ns)) ms ++ unless_there ms n
        → map (overridden ns) (with_member (m ∷ ms) n.0 n.1) ≡ map (overridden (n ∷ ns)) (m ∷ ms) ++ unless_there (m ∷ ms) n
    by true is again =
        let key : n.0 ≡ m.0 = same_text n.0 m.0 (sym is) in
        let none : value_at m.0 (pairs ns) ≡ None = ap (λ (k : List ℕ). value_at k (pairs ns)) (sym key) ∙ key_valued n.0 ns new in
        let away : has_key n.0 ms ≡ false = ap (λ (k : List ℕ). has_key k ms) key ∙ once.0 in
        let is_too : bytes_eq m.0 n.0 ≡ true = bytes_eq-flip m.0 n.0 ∙ is in
        rw (is, is_too, none) (ap (λ (xs : Members). (m.0, n.1) ∷ xs) (sym (same_value n ns ms away) ∙ sym (append-nil (map (overridden (n ∷ ns)) ms))))
    by false is again = let is_too : bytes_eq m.0 n.0 ≡ false = bytes_eq-flip m.0 n.0 ∙ is in rw (is, is_too) (ap (λ (xs : Members). overridden ns m ∷ xs) again)

-- ---- and the others

others_with : (n : List ℕ × Data) (ns ms : Members) → has_key n.0 ns ≡ false → filter (λ x. not (has_key x.0 (with_member ms n.0 n.1))) ns ≡ filter (λ x. not (has_key x.0 ms)) ns
others_with n [] ms new = refl
others_with n (x ∷ ns) ms new =
    let parts = neither (bytes_eq n.0 x.0) (has_key n.0 ns) new in
    let apart : bytes_eq x.0 n.0 ≡ false = bytes_eq-flip x.0 n.0 ∙ parts.0 in
    let test : has_key x.0 (with_member ms n.0 n.1) ≡ has_key x.0 ms = has_with x.0 n.0 n.1 ms ∙ ap (λ (b : Bool). has_key x.0 ms || b) apart ∙ off (has_key x.0 ms) in
    λ i. cond (not (test i)) (x ∷ others_with n ns ms parts.1 i) (others_with n ns ms parts.1 i)

put_once : (ms ns : Members) → AreOnce ms → AreOnce ns → put_in ms ns ≡ merged ms ns
unfolding unless_there
put_once ms [] h k = sym (end ms)
  where
    end : (xs : Members) → map (overridden []) xs ++ [] ≡ xs
    end [] = refl
    end (x ∷ xs) = ap (λ (ys : Members). x ∷ ys) (end xs)
put_once ms (n ∷ ns) h k =
    put_once (with_member ms n.0 n.1) ns (once_with n.0 n.1 ms h) k.1
    ∙ (λ i. override_with n ns ms k.0 h i ++ others_with n ns ms k.0 i)
    ∙ append_assoc (map (overridden (n ∷ ns)) ms) (unless_there ms n) (filter (λ x. not (has_key x.0 ms)) ns)
    ∙ ap (λ (xs : Members). map (overridden (n ∷ ns)) ms ++ xs) (by (has_key n.0 ms) refl)
  where
    by : (b : Bool) → has_key n.0 ms ≡ b → unless_there ms n ++ filter (λ x. not (has_key x.0 ms)) ns ≡ filter (λ x. not (has_key x.0 ms)) (n ∷ ns)
    by true is = rw is refl
    by false is = rw is refl

all_new : (ns : Members) → merged [] ns ≡ ns
all_new [] = refl
all_new (n ∷ ns) = ap (λ (xs : Members). n ∷ xs) (all_new ns)

-- the members of two objects put in one after another are those of the first, overridden, and the others
pub put_both : (ms ns : Members) → AreDistinct [] ms → AreDistinct [] ns → put_in (put_in [] ms) ns ≡ merged ms ns
put_both ms ns h k = ap (λ (xs : Members). put_in xs ns) (put_once [] ms tt (once_behind [] ms h) ∙ all_new ms) ∙ put_once ms ns (once_behind [] ms h) (once_behind [] ns k)
