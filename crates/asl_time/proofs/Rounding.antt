-- Fractions and their first three digits.
use Rattle.std.proofs.Common.{◌≡◌, ◌<◌, ◌≤◌, ◌+◌, ◌-◌, ◌*◌, ◌^◌, ℕ, zero, suc, List, [], ◌∷◌, length, take, drop, get_or, sym, ◌∙◌, ap, arith, refl}
use Rattle.std.proofs.lemmas.Bool.Decides.{nat_tests}
use Rattle.std.proofs.lemmas.Int.Digits.{digits_value-lt}
use Rattle.std.proofs.lemmas.List.Elements.{All-nil, All-cons, All-head, All-tail, All-same}
use Rattle.std.proofs.lemmas.List.{take_all}
use Rattle.std.specs.Char.{digit_value}
use Rattle.std.specs.List.{All}
use Rattle.std.specs.Str.Parse.{AllDigits, digits_value, digits_value_after}
use native.Mathlib.Numerals.{unary_clauses}
use Rattle.asl_time.specs.Timestamp.{IsRoundedUp}

power_up : (n : ℕ) → 10 ^ suc n ≡ 10 * 10 ^ n
power_up n = simp unary_clauses (omega arith)

pub power_positive : (n : ℕ) → 0 < 10 ^ n
power_positive zero = omega arith
power_positive (suc n) = omega (arith, power_positive n, power_up n)

later : (n v p d l r : ℕ) → l ≡ (n * 10 + v) * p + d → r ≡ (0 * 10 + v) * p + d → l ≡ n * (10 * p) + r
later n v p d l r e f = grind arith

-- digits that follow n
value_after : (n : ℕ) (ds : List ℕ) → digits_value_after 10 n ds ≡ n * 10 ^ length ds + digits_value 10 ds
value_after n [] = omega arith
value_after n (c ∷ cs) =
    rw (power_up (length cs)) (later n (digit_value c) (10 ^ length cs) (digits_value 10 cs) (digits_value_after 10 n (c ∷ cs)) (digits_value 10 (c ∷ cs)) (value_after (n * 10 + digit_value c) cs) (value_after (0 * 10 + digit_value c) cs))

zero_digit : (c : ℕ) → digit_value c < 10 → digit_value c ≡ 0 → c ≡ 48
zero_digit c l e = grind (arith, nat_tests)

lead : (v p d : ℕ) → 0 < p → (0 * 10 + v) * p + d ≡ 0 → (v ≡ 0) × (d ≡ 0)
lead v p d l e = grind arith

value_zeros : (ds : List ℕ) → All (λ c. c ≡ 48) ds → digits_value 10 ds ≡ 0
value_zeros [] h = refl
value_zeros (c ∷ cs) h =
    let e : c ≡ 48 = All-head (λ c. c ≡ 48) c cs h in
    let v : digit_value c ≡ 0 = ap digit_value e in
    let d = value_zeros cs (All-tail (λ c. c ≡ 48) c cs h) in
    value_after (0 * 10 + digit_value c) cs ∙ rw (v, d) (omega arith)

zeros_value : (ds : List ℕ) → AllDigits 10 ds → digits_value 10 ds ≡ 0 → All (λ c. c ≡ 48) ds
zeros_value [] h e = All-nil (λ c. c ≡ 48)
zeros_value (c ∷ cs) h e =
    let l = lead (digit_value c) (10 ^ length cs) (digits_value 10 cs) (power_positive (length cs)) (sym (value_after (0 * 10 + digit_value c) cs) ∙ e) in
    All-cons (λ c. c ≡ 48) c cs (zero_digit c h.0 l.0) (zeros_value cs h.1 l.1)

abbrev Rounds : ℕ → ℕ → ℕ → Type 0
Rounds value power n = (1000 * value ≤ n * power) × (n * power < 1000 * value + power)

down : (v p r : ℕ) → 0 < p → r ≡ 0 → Rounds (v * p + r) (1000 * p) v
down v p r l e = (grind arith, grind arith)

up : (v p r : ℕ) → 0 < r → r < p → Rounds (v * p + r) (1000 * p) (v + 1)
up v p r l m = (grind arith, grind arith)

power_three : (n : ℕ) → 10 ^ suc (suc (suc n)) ≡ 1000 * 10 ^ n
power_three n = omega (arith, power_up (suc (suc n)), power_up (suc n), power_up n)

abbrev front : ℕ → ℕ → ℕ → ℕ
front a b c = ((0 * 10 + a) * 10 + b) * 10 + c

of_rounds : (a b c : ℕ) (rest : List ℕ) (n : ℕ) → Rounds (front (digit_value a) (digit_value b) (digit_value c) * 10 ^ length rest + digits_value 10 rest) (1000 * 10 ^ length rest) n → IsRoundedUp (a ∷ b ∷ c ∷ rest) n
of_rounds a b c rest n h =
    let value = value_after (front (digit_value a) (digit_value b) (digit_value c)) rest in
    let power = power_three (length rest) in
    record { enough = rw (value, power) h.0; least = rw (value, power) h.1 }

positive : (n : ℕ) → (n ≡ 0 → ⊥) → 0 < n
positive zero h = absurd (h refl)
positive (suc n) h = omega arith

abbrev digit_at : List ℕ → ℕ → ℕ
digit_at t i = digit_value (get_or t i 0)

abbrev first_three : List ℕ → ℕ
first_three t = digit_at t 0 * 100 + digit_at t 1 * 10 + digit_at t 2

same_front : (a b c : ℕ) → a * 100 + b * 10 + c ≡ front a b c
same_front a b c = omega arith

-- the elements behind the first three, as a slice pattern has them
abbrev behind_three : List ℕ → List ℕ
behind_three t = take (length t - 3) (drop 3 t)

behind_three_is : (a b c : ℕ) (rest : List ℕ) → behind_three (a ∷ b ∷ c ∷ rest) ≡ rest
behind_three_is a b c rest = take_all (length (a ∷ b ∷ c ∷ rest) - 3) rest (omega arith)

pub rounded_down : (t : List ℕ) → 3 ≤ length t → All (λ c. c ≡ 48) (behind_three t) → IsRoundedUp t (first_three t)
rounded_down [] l h = absurd (omega arith)
rounded_down (a ∷ []) l h = absurd (omega arith)
rounded_down (a ∷ b ∷ []) l h = absurd (omega arith)
rounded_down (a ∷ b ∷ c ∷ rest) l h =
    rw (same_front (digit_value a) (digit_value b) (digit_value c)) (of_rounds a b c rest _ (down _ (10 ^ length rest) (digits_value 10 rest) (power_positive (length rest)) (value_zeros rest (All-same (λ c. c ≡ 48) rest (behind_three (a ∷ b ∷ c ∷ rest)) (sym (behind_three_is a b c rest)) h))))

pub rounded_up : (t : List ℕ) → 3 ≤ length t → AllDigits 10 t → (All (λ c. c ≡ 48) (behind_three t) → ⊥) → IsRoundedUp t (first_three t + 1)
rounded_up [] l d h = absurd (omega arith)
rounded_up (a ∷ []) l d h = absurd (omega arith)
rounded_up (a ∷ b ∷ []) l d h = absurd (omega arith)
rounded_up (a ∷ b ∷ c ∷ rest) l d h =
    let digits : AllDigits 10 rest = d.1.1.1 in
    let some : 0 < digits_value 10 rest = positive (digits_value 10 rest) (λ e. h (All-same (λ c. c ≡ 48) (behind_three (a ∷ b ∷ c ∷ rest)) rest (behind_three_is a b c rest) (zeros_value rest digits e))) in
    rw (same_front (digit_value a) (digit_value b) (digit_value c)) (of_rounds a b c rest _ (up _ (10 ^ length rest) (digits_value 10 rest) some (digits_value-lt 10 rest digits)))
