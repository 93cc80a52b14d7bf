-- Plain decimal is a number of a whole value, and a whole value is below 10 ^ 18.
use Rattle.std.proofs.Common.{◌≡◌, ◌⊎◌, ℕ, zero, suc, ◌+◌, ◌-◌, ◌*◌, ◌^◌, ◌%◌, ◌/◌, ◌≤◌, ◌<◌, Bool, true, false, cond, ◌==◌, List, [], ◌∷◌, ◌++◌, length, get_or, refl, sym, ap, subst, ◌∙◌, arith, inl, inr, ℤ, pos, negsuc, ◌*ℤ◌}
use Rattle.std.specs.Prelude.{neg_ℤ, unsigned_abs, int_div, FitsSigned, nat_lt, nat_le, not, ◌||◌}
use mir.Syntax.{w128}
use Rattle.std.specs.Fmt.{decimal, signed_decimal}
use Rattle.std.proofs.lemmas.List.{append-nil}
use Rattle.std.proofs.lemmas.Fmt.{digits_decimal, digits_value-decimal, first_decimal, decimal_digit, length-decimal-le, decimal_nonempty}
use Rattle.std.proofs.lemmas.Str.Parse.{IsDigitsTest, FoldsDigits, IsNumeralModel, numerals_by_fold}
use Rattle.asl_json_data.specs.Number.{is_digit, is_point, is_mark, AreDigits, IsInt, IsNumeral, IsNumber, IsUnsigned, magnitude, integer, fraction, exponent, before, behind, digits_value, amount_of, units_of, is_over, is_negative, amount_limit, dividend, divisor}
use Rattle.asl_json_data.specs.private.Places.{IsAmount}
use Rattle.asl_json_data.proofs.Figures.{digit_small, Lacks, before_over, behind_over}
use Rattle.asl_json_data.proofs.Numerals.{digit_no_point, digit_no_mark}
use Rattle.asl_json_data.proofs.Amounts.{fits_amount}

-- ---- the digits of a decimal

digit_is : (c : ℕ) → 48 ≤ c → c ≤ 57 → is_digit c ≡ true
unfolding is_digit
digit_is c h k = grind (arith, h, k)

own_digits : IsDigitsTest AreDigits
own_digits = record { empty = tt; parts = λ c cs h. (digit_small c h.0, h.1); more = λ c cs k h. (digit_is c k.0 k.1, h) }

own_value : FoldsDigits digits_value
own_value = record { empty = λ n. refl; more = λ n c cs k. refl }

own : IsNumeralModel AreDigits (digits_value 0)
own = numerals_by_fold AreDigits own_digits digits_value own_value

int_of : (ds : List ℕ) → 0 < length ds → AreDigits ds → 48 < get_or ds 0 0 → IsInt ds
int_of [] some h lead = absurd (omega arith)
int_of (c ∷ []) some h lead = h.0
int_of (c ∷ d ∷ ds) some h lead = (h.0, (grind (arith, lead), h.1))

-- ---- what they mean as a number

lacks_point : (ds : List ℕ) → AreDigits ds → Lacks is_point ds
lacks_point [] h = tt
lacks_point (c ∷ ds) h = (digit_no_point c h.0, lacks_point ds h.1)

lacks_mark : (ds : List ℕ) → AreDigits ds → Lacks is_mark ds
lacks_mark [] h = tt
lacks_mark (c ∷ ds) h = (digit_no_mark c h.0, lacks_mark ds h.1)

all_before : (p : ℕ → Bool) (ds : List ℕ) → Lacks p ds → before p ds ≡ ds
all_before p ds h = ap (before p) (sym (append-nil ds)) ∙ before_over p ds [] h ∙ append-nil ds

none_behind : (p : ℕ → Bool) (ds : List ℕ) → Lacks p ds → behind p ds ≡ []
none_behind p ds h = ap (behind p) (sym (append-nil ds)) ∙ behind_over p ds [] h

is_amount : (ds : List ℕ) (n : ℕ) → digits_value 0 ds ≡ n → n < 10 ^ 18 → IsAmount ds [] [] (n * 1000000000)
is_amount ds n e lt =
    let value : digits_value 0 (ds ++ []) ≡ n = ap (digits_value 0) (append-nil ds) ∙ e in
    record { whole = omega arith; value = omega (arith, value); below = omega (arith, lt) }

whole_number : (s ds : List ℕ) (n : ℕ) → magnitude s ≡ ds → length s ≤ 40 → IsInt ds → AreDigits ds → digits_value 0 ds ≡ n → n < 10 ^ 18 → IsNumber s × (amount_of s ≡ n * 1000000000)
whole_number s ds n m short int digits value lt =
    let front : before is_mark (magnitude s) ≡ ds = ap (before is_mark) m ∙ all_before is_mark ds (lacks_mark ds digits) in
    let whole : integer s ≡ ds = ap (before is_point) front ∙ all_before is_point ds (lacks_point ds digits) in
    let no_fraction : fraction s ≡ [] = ap (behind is_point) front ∙ none_behind is_point ds (lacks_point ds digits) in
    let no_exponent : exponent s ≡ [] = ap (behind is_mark) m ∙ none_behind is_mark ds (lacks_mark ds digits) in
    let amount : IsAmount (integer s) (fraction s) (exponent s) (n * 1000000000) = rw (whole, no_fraction, no_exponent) (is_amount ds n value lt) in
    let fits = fits_amount s (n * 1000000000) short amount in
    let parts : IsUnsigned ds = record { int = ds; frac = []; exp = []; parts = sym (append-nil ds); int_is = int; frac_is = tt; exp_is = tt } in
    ((subst IsUnsigned (sym m) parts, fits.1), sym fits.0)

-- ---- a decimal with its sign

no_minus : (ds : List ℕ) → AreDigits ds → (magnitude ds ≡ ds) × (is_negative ds ≡ false)
no_minus [] h = (refl, refl)
no_minus (c ∷ ds) h = let small = digit_small c h.0 in let other : (c == 45) ≡ false = grind (arith, small) in (rw other refl, other)

int_decimal : (n : ℕ) → n < 10 ^ 18 → IsInt (decimal n)
unfolding is_digit
int_decimal zero lt = subst IsInt (sym (decimal_digit 0 (omega arith))) refl
int_decimal (suc n) lt = int_of (decimal (suc n)) (decimal_nonempty (suc n) (omega arith)) (digits_decimal own (suc n) (omega arith)) (first_decimal (suc n) (omega arith) (omega arith))

pub decimal_number : (z : ℤ) → unsigned_abs z < 10 ^ 18 → IsNumber (signed_decimal z)
decimal_number (pos n) lt =
    let digits = digits_decimal own n (omega arith) in
    let plain = no_minus (decimal n) digits in
    let fits = whole_number (decimal n) (decimal n) n plain.0 (omega (arith, length-decimal-le 18 n (omega arith) lt (omega arith))) (int_decimal n lt) digits (digits_value-decimal own n (omega arith)) lt in
    fits.0
decimal_number (negsuc n) lt =
    let digits = digits_decimal own (suc n) (omega arith) in
    let fits = whole_number (45 ∷ decimal (suc n)) (decimal (suc n)) (suc n) refl (omega (arith, length-decimal-le 18 (suc n) (omega arith) lt (omega arith))) (int_decimal (suc n) lt) digits (digits_value-decimal own (suc n) (omega arith)) lt in
    fits.0

-- ---- whole values

abs_signed : (b : Bool) (n : ℕ) → unsigned_abs (cond b (neg_ℤ (pos n)) (pos n)) ≡ n
abs_signed false n = refl
abs_signed true zero = refl
abs_signed true (suc n) = refl

third_false : (a b c : Bool) → (a || (b || c)) ≡ false → c ≡ false
third_false false false c h = h
third_false false true c h = absurd (cc)
third_false true b c h = absurd (cc)

pub units_below : (s : List ℕ) → is_over s ≡ false → unsigned_abs (units_of s) < amount_limit
unfolding is_over
units_below s h =
    let below = third_false (nat_lt 40 (length s)) (not (dividend s % divisor s == 0)) (nat_le amount_limit (amount_of s)) h in
    omega (arith, abs_signed (is_negative s) (amount_of s), leb_false_lt amount_limit (amount_of s) below)
  where
    leb_false_lt : (a b : ℕ) → nat_le a b ≡ false → b < a
    leb_false_lt a b e = grind (arith, e)

abs_neg : (n : ℕ) → unsigned_abs (neg_ℤ (pos n)) ≡ n
abs_neg zero = refl
abs_neg (suc n) = refl

pub quotient_below : (z : ℤ) → unsigned_abs z < amount_limit → unsigned_abs (int_div z (pos 1000000000)) < 10 ^ 18
quotient_below (pos n) lt = omega (arith, lt)
quotient_below (negsuc n) lt = omega (arith, lt, abs_neg (suc n / 1000000000))

pub amount_fits : (z : ℤ) → unsigned_abs z < 10 ^ 18 → FitsSigned w128 z
amount_fits (pos n) lt = record { sfits = omega (arith, lt) }
amount_fits (negsuc n) lt = record { sfits = omega (arith, lt) }
