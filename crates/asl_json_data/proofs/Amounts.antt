-- A number's amount by its digits without the zeros at the end.
use Rattle.std.proofs.Common.{cond, zero-mul, ◌≡◌, ℕ, zero, suc, ◌+◌, ◌-◌, ◌*◌, ◌^◌, ◌/◌, ◌%◌, ◌≤◌, ◌<◌, min, Bool, true, false, not, ◌||◌, nat_le, nat_lt, ◌==◌, List, [], ◌++◌, length, take, drop, eq-eqb, refl, sym, ap, subst, ◌∙◌, arith, ◌⊎◌, inl, inr}
use Rattle.std.proofs.lemmas.List.{length-drop, take-append-drop, take_all}
use Rattle.std.proofs.lemmas.Nat.{pow-add, div-add-mod'}
use Rattle.std.proofs.lemmas.Grind.{pow_more}
use Rattle.std.proofs.lemmas.Bool.{cases_lt, eqb-true}
use Rattle.std.proofs.Math.Nat.{mul_comm, mul_assoc, pow-suc, one-le-pow, pow-le-pow_right, mul-mod_left, mul-div_cancel, le-mul_of_pos_right, mul-le-mul_left, le_of_mul-le-mul_right, zero-div, zero-mod}
use Rattle.asl_json_data.specs.Number.{AreDigits, integer, fraction, exponent, is_negative, unsigned, raised, lowered, digits_value, dividend, divisor, amount_of, amount_limit, max_number_len, is_over}
use Rattle.asl_json_data.specs.private.Places.{IsStripped, IsShifted, IsUnshiftable, dividend_of, divisor_of, IsAmount, IsBeyond}
use Rattle.asl_json_data.proofs.Figures.{value_append, value_zeros, digits_take, digits_both, no_tens}

-- ---- powers of ten

pub tens_above : (n : ℕ) → 0 < 10 ^ n
tens_above n = one-le-pow n 10 (omega arith)

pub tens_grow : (i j : ℕ) → i ≤ j → 10 ^ i ≤ 10 ^ j
tens_grow i j h = pow-le-pow_right (omega arith) h

pub scaled_grows : (m i j : ℕ) → i ≤ j → m * 10 ^ i ≤ m * 10 ^ j
scaled_grows m i j h = mul-le-mul_left m (tens_grow i j h)

pub scaled_above : (m j : ℕ) → m ≤ m * 10 ^ j
scaled_above m j = le-mul_of_pos_right m (tens_above j)

-- one zero more
pub scaled_more : (m k v : ℕ) → v ≡ m * 10 ^ k → v * 10 ≡ m * 10 ^ (k + 1)
scaled_more m k v e = ap (λ (x : ℕ). x * 10) e ∙ mul_assoc m (10 ^ k) 10 ∙ ap (λ (x : ℕ). m * x) (sym (pow_more 10 k))

-- m tens, of which b tens are taken
apart : (m a b : ℕ) → b ≤ a → m * 10 ^ a ≡ (m * 10 ^ (a - b)) * 10 ^ b
apart m a b h =
    let sum : a ≡ (a - b) + b = omega arith in
    ap (λ (x : ℕ). m * 10 ^ x) sum ∙ ap (λ (x : ℕ). m * x) (pow-add 10 (a - b) b) ∙ sym (mul_assoc m (10 ^ (a - b)) (10 ^ b))

pub whole_rest : (m a b : ℕ) → b ≤ a → (m * 10 ^ a) % 10 ^ b ≡ 0
whole_rest m a b h = ap (λ (x : ℕ). x % 10 ^ b) (apart m a b h) ∙ mul-mod_left (m * 10 ^ (a - b)) (10 ^ b)

pub whole_quotient : (m a b : ℕ) → b ≤ a → (m * 10 ^ a) / 10 ^ b ≡ m * 10 ^ (a - b)
whole_quotient m a b h = ap (λ (x : ℕ). x / 10 ^ b) (apart m a b h) ∙ mul-div_cancel (m * 10 ^ (a - b)) (tens_above b)

cancel : (m n t : ℕ) → 0 < t → m * t ≡ n * t → m ≡ n
cancel m n t lt e =
    let up : m * t ≤ n * t = omega arith in
    let down : n * t ≤ m * t = omega arith in
    let le : m ≤ n = le_of_mul-le-mul_right up lt in
    let ge : n ≤ m = le_of_mul-le-mul_right down lt in
    omega arith

-- where fewer tens divide, m is a multiple of ten
pub no_whole : (m a b : ℕ) → a < b → (m * 10 ^ a) % 10 ^ b ≡ 0 → m % 10 ≡ 0
no_whole m a b lt e =
    let k = b - suc a in
    let q = (m * 10 ^ a) / 10 ^ b in
    let sum : b ≡ suc k + a = omega arith in
    let quotient : m * 10 ^ a ≡ q * 10 ^ b = let d = div-add-mod' (m * 10 ^ a) (10 ^ b) in omega (arith, d, e) in
    let regrouped : q * 10 ^ b ≡ ((q * 10 ^ k) * 10) * 10 ^ a =
    ap (λ (x : ℕ). q * 10 ^ x) sum ∙ ap (λ (x : ℕ). q * x) (pow-add 10 (suc k) a ∙ ap (λ (x : ℕ). x * 10 ^ a) (pow-suc 10 k)) ∙ sym (mul_assoc q (10 ^ k * 10) (10 ^ a)) ∙ ap (λ (x : ℕ). x * 10 ^ a) (sym (mul_assoc q (10 ^ k) 10)) in
    let same = cancel m ((q * 10 ^ k) * 10) (10 ^ a) (tens_above a) (quotient ∙ regrouped) in
    ap (λ (x : ℕ). x % 10) same ∙ mul-mod_left (q * 10 ^ k) 10

-- ---- the digits without the zeros at the end

abbrev pub kept : List ℕ → List ℕ → ℕ → ℕ → List ℕ
kept int frac i f = take i int ++ take f frac

-- all digits, by those that are kept
pub all_digits : (int frac : List ℕ) (i f : ℕ) → IsStripped int frac i f → digits_value 0 (int ++ frac) ≡ digits_value 0 (kept int frac i f) * 10 ^ ((length int - i) + (length frac - f))
all_digits int frac i f h = value_append 0 int frac ∙ told f refl
  where
    int_value : (n : ℕ) → digits_value n int ≡ digits_value n (take i int) * 10 ^ (length int - i)
    int_value n = ap (digits_value n) (sym (take-append-drop i int)) ∙ value_append n (take i int) (drop i int) ∙ value_zeros (digits_value n (take i int)) (drop i int) h.integer_zeros ∙ ap (λ (x : ℕ). digits_value n (take i int) * 10 ^ x) (length-drop i int)

    frac_value : (n : ℕ) → digits_value n frac ≡ digits_value n (take f frac) * 10 ^ (length frac - f)
    frac_value n = ap (digits_value n) (sym (take-append-drop f frac)) ∙ value_append n (take f frac) (drop f frac) ∙ value_zeros (digits_value n (take f frac)) (drop f frac) h.fraction_zeros ∙ ap (λ (x : ℕ). digits_value n (take f frac) * 10 ^ x) (length-drop f frac)

    told : (g : ℕ) → f ≡ g → digits_value (digits_value 0 int) frac ≡ digits_value 0 (kept int frac i f) * 10 ^ ((length int - i) + (length frac - f))
    told zero e =
        let none : take f frac ≡ [] = ap (λ (x : ℕ). take x frac) e in
        let v = digits_value 0 (take i int) in
        frac_value (digits_value 0 int)
        ∙ ap (λ (x : List ℕ). digits_value (digits_value 0 int) x * 10 ^ (length frac - f)) none
        ∙ ap (λ (x : ℕ). x * 10 ^ (length frac - f)) (int_value 0)
        ∙ mul_assoc v (10 ^ (length int - i)) (10 ^ (length frac - f))
        ∙ ap (λ (x : ℕ). v * x) (sym (pow-add 10 (length int - i) (length frac - f)))
        ∙ ap (λ (x : ℕ). x * 10 ^ ((length int - i) + (length frac - f))) (sym (value_append 0 (take i int) (take f frac) ∙ ap (digits_value v) none))
    told (suc g) e =
        let all : i ≡ length int = h.all_integer (omega (arith, e)) in
        let count : (length int - i) + (length frac - f) ≡ length frac - f = omega (arith, all) in
        let same : take i int ≡ int = take_all i int (omega (arith, all)) in
        frac_value (digits_value 0 int)
        ∙ ap (λ (x : List ℕ). digits_value (digits_value 0 x) (take f frac) * 10 ^ (length frac - f)) (sym same)
        ∙ ap (λ (x : ℕ). x * 10 ^ (length frac - f)) (sym (value_append 0 (take i int) (take f frac)))
        ∙ ap (λ (x : ℕ). digits_value 0 (kept int frac i f) * 10 ^ x) (sym count)

-- the dividend by the kept digits, and how many tens it has
abbrev tens_up : List ℕ → List ℕ → List ℕ → ℕ → ℕ → ℕ
tens_up int frac exp i f = ((length int - i) + (length frac - f)) + (9 + raised exp)

by_kept : (int frac exp : List ℕ) (i f : ℕ) → IsStripped int frac i f → dividend_of int frac exp ≡ digits_value 0 (kept int frac i f) * 10 ^ tens_up int frac exp i f
by_kept int frac exp i f h =
    let v = digits_value 0 (kept int frac i f) in
    let g = (length int - i) + (length frac - f) in
    ap (λ (x : ℕ). x * 10 ^ (9 + raised exp)) (all_digits int frac i f h) ∙ mul_assoc v (10 ^ g) (10 ^ (9 + raised exp)) ∙ ap (λ (x : ℕ). v * x) (sym (pow-add 10 g (9 + raised exp)))

-- ---- what is made of them

-- the exponent is to one side
pub one_side : (exp : List ℕ) → (raised exp ≡ 0) ⊎ (lowered exp ≡ 0)
one_side exp = told (is_negative exp)
  where
    told : (b : Bool) → (cond b 0 (digits_value 0 (unsigned exp)) ≡ 0) ⊎ (cond b (digits_value 0 (unsigned exp)) 0 ≡ 0)
    told true = inl refl
    told false = inr refl

-- as m tens up by a and down by b, where m isn't a multiple of ten
abbrev Beyond : ℕ → ℕ → ℕ → Type 0
Beyond m a b = (m * 10 ^ a) % 10 ^ b ≡ 0 → amount_limit ≤ (m * 10 ^ a) / 10 ^ b

beyond_by : (m a b : ℕ) → (m % 10 ≡ 0 → m ≡ 0) → 0 < m → (b ≤ a → amount_limit ≤ m * 10 ^ (a - b)) → Beyond m a b
beyond_by m a b tens some large e = elim (cases_lt a b) [
  | inl lt ↦ absurd (let none = tens (no_whole m a b lt e) in omega arith)
  | inr le ↦ subst (λ (x : ℕ). amount_limit ≤ x) (sym (whole_quotient m a b le)) (large le)
]

record IsExact (m a b n : ℕ) : Type 0 where
  pub whole : (m * 10 ^ a) % 10 ^ b ≡ 0
  pub value : n ≡ (m * 10 ^ a) / 10 ^ b
  pub below : n < amount_limit

exact_by : (m a b n : ℕ) → b ≤ a → n ≡ m * 10 ^ (a - b) → n < amount_limit → IsExact m a b n
exact_by m a b n le e lt = record { whole = whole_rest m a b le; value = e ∙ sym (whole_quotient m a b le); below = lt }

exact_none : (m a b n : ℕ) → m ≡ 0 → n ≡ 0 → IsExact m a b n
exact_none m a b n z e =
    let nothing : m * 10 ^ a ≡ 0 = ap (λ (x : ℕ). x * 10 ^ a) z ∙ zero-mul (10 ^ a) in
    record { whole = ap (λ (x : ℕ). x % 10 ^ b) nothing ∙ zero-mod (10 ^ b); value = e ∙ sym (ap (λ (x : ℕ). x / 10 ^ b) nothing ∙ zero-div (10 ^ b)); below = omega arith }

-- the digits that are kept, and how far they are moved
pub record Moved (int frac exp : List ℕ) (i f m up down : ℕ) : Type 0 where
  pub digits : m ≡ digits_value 0 (kept int frac i f)
  pub up_is : up ≡ (9 + (length int - i)) + min (raised exp) 1000
  pub down_is : down ≡ f + min (lowered exp) 1000

kept_tens : (int frac : List ℕ) (i f : ℕ) → AreDigits int → AreDigits frac → IsStripped int frac i f → digits_value 0 (kept int frac i f) % 10 ≡ 0 → digits_value 0 (kept int frac i f) ≡ 0
kept_tens int frac i f di df h = no_tens (kept int frac i f) (digits_both (take i int) (take f frac) (digits_take i int di) (digits_take f frac df)) h.last

beyond_of : (int frac exp : List ℕ) (i f : ℕ) → IsStripped int frac i f → Beyond (digits_value 0 (kept int frac i f)) (tens_up int frac exp i f) (length frac + lowered exp) → IsBeyond int frac exp
beyond_of int frac exp i f h b = subst (λ (x : ℕ). x % divisor_of frac exp ≡ 0 → amount_limit ≤ x / divisor_of frac exp) (sym (by_kept int frac exp i f h)) b

-- digits alone that are past the limit
pub digits_beyond : (int frac exp : List ℕ) (i f : ℕ) → AreDigits int → AreDigits frac → IsStripped int frac i f → amount_limit ≤ digits_value 0 (kept int frac i f) → IsBeyond int frac exp
digits_beyond int frac exp i f di df h large =
    let m = digits_value 0 (kept int frac i f) in
    let a = tens_up int frac exp i f in
    let b = length frac + lowered exp in
    beyond_of int frac exp i f h (beyond_by m a b (kept_tens int frac i f di df h) (omega (arith, large)) (λ le. let grown = scaled_above m (a - b) in omega (arith, large, grown)))

-- how far they are moved, where the exponent is taken as far as it matters
within : (li i lf f r l up down : ℕ) → i ≤ li → f ≤ lf → li + lf ≤ 40 → (r ≡ 0) ⊎ (l ≡ 0) → up ≡ (9 + (li - i)) + min r 1000 → down ≡ f + min l 1000 → lf + l ≤ ((li - i) + (lf - f)) + (9 + r)
    → (down ≤ up) × (up - down ≤ (((li - i) + (lf - f)) + (9 + r)) - (lf + l))
within li i lf f r l up down hi hf short (inl z) u d le = (omega arith, omega arith)
within li i lf f r l up down hi hf short (inr z) u d le = (omega arith, omega arith)

exactly : (li i lf f r l up down : ℕ) → i ≤ li → f ≤ lf → li + lf ≤ 40 → (r ≡ 0) ⊎ (l ≡ 0) → up ≡ (9 + (li - i)) + min r 1000 → down ≡ f + min l 1000 → down ≤ up → up - down < 27
    → (lf + l ≤ ((li - i) + (lf - f)) + (9 + r)) × ((((li - i) + (lf - f)) + (9 + r)) - (lf + l) ≡ up - down)
exactly li i lf f r l up down hi hf short (inl z) u d le small = (omega arith, omega arith)
exactly li i lf f r l up down hi hf short (inr z) u d le small = (omega arith, omega arith)

few_tens : (m k : ℕ) → 0 < m → m * 10 ^ k < amount_limit → k < 27
few_tens m k some below = elim (cases_lt k 27) [
  | inl lt ↦ lt
  | inr le ↦ absurd (let grown = tens_grow 27 k le in let more : 10 ^ k ≤ m * 10 ^ k = subst (λ (x : ℕ). 10 ^ k ≤ x) (mul_comm (10 ^ k) m) (le-mul_of_pos_right (10 ^ k) some) in omega arith)
]

pub moved_beyond : (int frac exp : List ℕ) (i f m up down : ℕ) → AreDigits int → AreDigits frac → length int + length frac ≤ 40 → IsStripped int frac i f → Moved int frac exp i f m up down → IsUnshiftable m up down → IsBeyond int frac exp
moved_beyond int frac exp i f m up down di df short h g u = beyond_of int frac exp i f h (subst (λ (x : ℕ). Beyond x a b) g.digits moved)
  where
    a : ℕ
    a = tens_up int frac exp i f

    b : ℕ
    b = length frac + lowered exp

    large : b ≤ a → amount_limit ≤ m * 10 ^ (a - b)
    large le =
        let w = within (length int) i (length frac) f (raised exp) (lowered exp) up down h.integer_within h.fraction_within short (one_side exp) g.up_is g.down_is le in
        let grown = scaled_grows m (up - down) (a - b) w.1 in
        let least = u.1 w.0 in
        omega (arith, least, grown)

    moved : Beyond m a b
    moved = beyond_by m a b (subst (λ (x : ℕ). x % 10 ≡ 0 → x ≡ 0) (sym g.digits) (kept_tens int frac i f di df h)) u.0 large

amount_of_exact : (int frac exp : List ℕ) (i f n : ℕ) → IsStripped int frac i f → IsExact (digits_value 0 (kept int frac i f)) (tens_up int frac exp i f) (length frac + lowered exp) n → IsAmount int frac exp n
amount_of_exact int frac exp i f n h e =
    let same = sym (by_kept int frac exp i f h) in
    record { whole = subst (λ (x : ℕ). x % divisor_of frac exp ≡ 0) same e.whole; value = subst (λ (x : ℕ). n ≡ x / divisor_of frac exp) same e.value; below = e.below }

pub moved_amount : (int frac exp : List ℕ) (i f m up down n : ℕ) → length int + length frac ≤ 40 → IsStripped int frac i f → Moved int frac exp i f m up down → IsShifted m up down n → IsAmount int frac exp n
moved_amount int frac exp i f m up down n short h g s = amount_of_exact int frac exp i f n h (subst (λ (x : ℕ). IsExact x a b n) g.digits (told (cases_lt 0 m)))
  where
    a : ℕ
    a = tens_up int frac exp i f

    b : ℕ
    b = length frac + lowered exp

    told : (0 < m) ⊎ (m ≤ 0) → IsExact m a b n
    told (inl some) =
        let small = few_tens m (up - down) some (let v = s.value in let l = s.below in omega (arith, v, l)) in
        let e = exactly (length int) i (length frac) f (raised exp) (lowered exp) up down h.integer_within h.fraction_within short (one_side exp) g.up_is g.down_is (s.whole some) small in
        exact_by m a b n e.0 (s.value ∙ ap (λ (x : ℕ). m * 10 ^ x) (sym e.1)) s.below
    told (inr none) =
        let z : m ≡ 0 = omega arith in
        exact_none m a b n z (s.value ∙ ap (λ (x : ℕ). x * 10 ^ (up - down)) z ∙ zero-mul (10 ^ (up - down)))

-- ---- a number by its parts

pub over_long : (s : List ℕ) → max_number_len < length s → is_over s ≡ true
unfolding is_over
over_long s h = first (nat_lt max_number_len (length s)) _ (grind (arith, h))
  where
    first : (a b : Bool) → a ≡ true → (a || b) ≡ true
    first true b e = refl
    first false b e = absurd cc

pub over_beyond : (s : List ℕ) → IsBeyond (integer s) (fraction s) (exponent s) → is_over s ≡ true
unfolding is_over dividend divisor
over_beyond s h = told (dividend_of (integer s) (fraction s) (exponent s) % divisor_of (fraction s) (exponent s) == 0) refl
  where
    q : ℕ
    q = dividend_of (integer s) (fraction s) (exponent s) / divisor_of (fraction s) (exponent s)

    last : (a b : Bool) → b ≡ true → (a || b) ≡ true
    last true b e = refl
    last false b e = e

    told : (x : Bool) → (dividend_of (integer s) (fraction s) (exponent s) % divisor_of (fraction s) (exponent s) == 0) ≡ x → (nat_lt max_number_len (length s) || (not x || nat_le amount_limit q)) ≡ true
    told true e = last (nat_lt max_number_len (length s)) (nat_le amount_limit q) (let large = h (eqb-true _ 0 e) in grind (arith, large))
    told false e = last (nat_lt max_number_len (length s)) true refl

pub fits_amount : (s : List ℕ) (n : ℕ) → length s ≤ max_number_len → IsAmount (integer s) (fraction s) (exponent s) n → (n ≡ amount_of s) × (is_over s ≡ false)
unfolding is_over dividend divisor
fits_amount s n short h =
    let whole = eq-eqb _ 0 h.whole in
    let small : nat_lt max_number_len (length s) ≡ false = grind (arith, short) in
    let below : nat_le amount_limit (dividend_of (integer s) (fraction s) (exponent s) / divisor_of (fraction s) (exponent s)) ≡ false = below_limit n _ h.value h.below in
    (h.value, rw (small, whole, below) refl)
  where
    below_limit : (n q : ℕ) → n ≡ q → n < amount_limit → nat_le amount_limit q ≡ false
    below_limit n q e lt = grind (arith, e, lt)
