-- Reaching a part of a list or an object.
use Rattle.std.proofs.Common.{◌≡◌, ◌∷◌, ◌++◌, ◌<◌, ◌+◌, [], List, ℕ, zero, suc, length, Bool, true, false, ◌||◌, Option, Some, set, get_or, refl, sym, ◌∙◌, ap, arith}
use Rattle.std.specs.Prelude.{slice_get, option_map, nat_eq}
use Rattle.std.specs.Cmp.Lexicographic.{pointwise}
use Rattle.asl_json_data.specs.Data.{Data}
use Rattle.asl_json.specs.View.{data_of, items_of, members_of, member_of}
use Rattle.asl_json_data.specs.Distinct.{has_key, AreDistinct}
use Rattle.asl_json.specs.Access.{with_value}
use Rattle.asl_json.specs.declared.value.Json.{Json}
use Rattle.asl_json.specs.declared.value.Member.{Member}

pub item_here : (vs : List Json) (i : ℕ) (v : Json) → i < length vs → v ≡ get_or vs i v → slice_get (items_of vs) i ≡ Some (data_of v)
item_here [] i v lt e = absurd (omega arith)
item_here (x ∷ vs) zero v lt e = ap (λ z. Some (data_of z)) (sym e)
item_here (x ∷ vs) (suc i) v lt e = item_here vs i v (omega arith) e

pub member_here : (ms : List Member) (i : ℕ) (m : Member) → i < length ms → m ≡ get_or ms i m → option_map (λ (x : List ℕ × Data). x.1) (slice_get (members_of ms) i) ≡ Some (data_of m.value)
member_here [] i m lt e = absurd (omega arith)
member_here (x ∷ ms) zero m lt e = ap (λ (z : Member). Some (data_of z.value)) (sym e)
member_here (x ∷ ms) (suc i) m lt e = member_here ms i m (omega arith) e

pub member_set : (ms : List Member) (i : ℕ) (m : Member) (w : Json) → i < length ms → m ≡ get_or ms i m → members_of (set ms i (record { key = m.key; value = w })) ≡ with_value (members_of ms) i (data_of w)
member_set [] i m w lt e = absurd (omega arith)
member_set (x ∷ ms) zero m w lt e = ap (λ (z : Member). (z.key, data_of w) ∷ members_of ms) e
member_set (x ∷ ms) (suc i) m w lt e = ap (λ (zs : List (List ℕ × Data)). member_of x ∷ zs) (member_set ms i m w (omega arith) e)

-- the same names
abbrev pub AreAlike : List (List ℕ × Data) → List (List ℕ × Data) → Type 0
AreAlike ms ns = (k : List ℕ) → has_key k ms ≡ has_key k ns

or_assoc : (a b c : Bool) → (a || b) || c ≡ a || (b || c)
or_assoc true b c = refl
or_assoc false b c = refl

has_key_end : (ms : List (List ℕ × Data)) (m : List ℕ × Data) (k : List ℕ) → has_key k (ms ++ m ∷ []) ≡ has_key k ms || (pointwise nat_eq k m.0 || false)
has_key_end [] m k = refl
has_key_end (x ∷ ms) m k = ap (λ b. pointwise nat_eq k x.0 || b) (has_key_end ms m k) ∙ sym (or_assoc (pointwise nat_eq k x.0) (has_key k ms) (pointwise nat_eq k m.0 || false))

alike_on : (ms ns : List (List ℕ × Data)) (m n : List ℕ × Data) → AreAlike ms ns → m.0 ≡ n.0 → AreAlike (ms ++ m ∷ []) (ns ++ n ∷ [])
alike_on ms ns m n h e k = has_key_end ms m k ∙ (λ i. h k i || (pointwise nat_eq k (e i) || false)) ∙ sym (has_key_end ns n k)

distinct_alike : (seen other ms : List (List ℕ × Data)) → AreAlike seen other → AreDistinct seen ms → AreDistinct other ms
distinct_alike seen other [] a h = tt
distinct_alike seen other (m ∷ ms) a h = (sym (a m.0) ∙ h.0, distinct_alike (seen ++ m ∷ []) (other ++ m ∷ []) ms (alike_on seen other m m a refl) h.1)

pub distinct_with : (seen ms : List (List ℕ × Data)) (i : ℕ) (d : Data) → AreDistinct seen ms → AreDistinct seen (with_value ms i d)
distinct_with seen [] i d h = tt
distinct_with seen (m ∷ ms) zero d h = (h.0, distinct_alike (seen ++ m ∷ []) (seen ++ (m.0, d) ∷ []) ms (alike_on seen seen m (m.0, d) (λ k. refl) refl) h.1)
distinct_with seen (m ∷ ms) (suc i) d h = (h.0, distinct_with (seen ++ m ∷ []) ms i d h.1)

pub set_distinct : (ms : List Member) (i : ℕ) (m : Member) (w : Json) → i < length ms → m ≡ get_or ms i m → AreDistinct [] (members_of ms) → AreDistinct [] (members_of (set ms i (record { key = m.key; value = w })))
set_distinct ms i m w lt e h = rw (member_set ms i m w lt e) (distinct_with [] (members_of ms) i (data_of w) h)

-- looking for a key
abbrev pub further : ℕ → Option ℕ → Option ℕ
further i o = option_map (λ j. i + j) o
