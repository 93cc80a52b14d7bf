-- The amount of a number that has no exponent and few digits behind the point.
use Rattle.std.proofs.Common.{◌≡◌, ℕ, suc, ◌+◌, ◌-◌, ◌*◌, ◌^◌, ◌/◌, ◌%◌, ◌≤◌, ◌<◌, List, [], ◌∷◌, ◌++◌, length, false, refl, sym, ap, subst, ◌∙◌, arith}
use Rattle.std.proofs.lemmas.List.{length-append}
use Rattle.std.proofs.lemmas.Nat.{pow-add}
use Rattle.std.proofs.Math.Nat.{mul_comm, mul_assoc, pow-suc, mul-le-mul_right}
use Rattle.asl_json_data.specs.Number.{AreDigits, IsNumeral, digits_value, lowered, integer, fraction, exponent, amount_limit, max_number_len, is_over}
use Rattle.asl_json_data.specs.private.Places.{IsAmount, IsBeyond, dividend_of, divisor_of}
use Rattle.asl_json_data.proofs.Amounts.{tens_above, tens_grow, whole_rest, whole_quotient, scaled_above, fits_amount}
use Rattle.asl_json_data.proofs.Figures.{digit_small, digits_both, numeral_parts}

-- what its digits mean in units
abbrev pub plain_units : List ℕ → List ℕ → ℕ
plain_units int frac = digits_value 0 (int ++ frac) * 10 ^ (9 - length frac)

no_exponent : (int frac : List ℕ) → divisor_of frac [] ≡ 10 ^ length frac
no_exponent int frac = let none : length frac + lowered [] ≡ length frac = omega arith in ap (λ (x : ℕ). 10 ^ x) none

quotient : (int frac : List ℕ) → length frac ≤ 9 → dividend_of int frac [] / divisor_of frac [] ≡ plain_units int frac
quotient int frac few = ap (λ (x : ℕ). dividend_of int frac [] / x) (no_exponent int frac) ∙ whole_quotient (digits_value 0 (int ++ frac)) 9 (length frac) few

rest : (int frac : List ℕ) → length frac ≤ 9 → dividend_of int frac [] % divisor_of frac [] ≡ 0
rest int frac few = ap (λ (x : ℕ). dividend_of int frac [] % x) (no_exponent int frac) ∙ whole_rest (digits_value 0 (int ++ frac)) 9 (length frac) few

pub plain_beyond : (int frac : List ℕ) → length frac ≤ 9 → amount_limit ≤ plain_units int frac → IsBeyond int frac []
plain_beyond int frac few large _ = subst (λ (x : ℕ). amount_limit ≤ x) (sym (quotient int frac few)) large

pub digits_past : (int frac : List ℕ) → length frac ≤ 9 → amount_limit ≤ digits_value 0 (int ++ frac) → IsBeyond int frac []
digits_past int frac few large = plain_beyond int frac few (let grown = scaled_above (digits_value 0 (int ++ frac)) (9 - length frac) in omega (arith, grown, large))

pub plain_exact : (int frac : List ℕ) (n : ℕ) → length frac ≤ 9 → n ≡ plain_units int frac → n < amount_limit → IsAmount int frac [] n
plain_exact int frac n few e lt = record { whole = rest int frac few; value = e ∙ sym (quotient int frac few); below = lt }

-- ---- few digits

digits_below : (n : ℕ) (ds : List ℕ) → AreDigits ds → digits_value n ds < suc n * 10 ^ length ds
digits_below n [] h = omega arith
digits_below n (c ∷ ds) h =
    let more = digits_below (n * 10 + (c - 48)) ds h.1 in
    let step : suc (n * 10 + (c - 48)) * 10 ^ length ds ≤ (suc n * 10) * 10 ^ length ds = mul-le-mul_right (10 ^ length ds) (let small = digit_small c h.0 in omega (arith, small.0, small.1)) in
    let same : (suc n * 10) * 10 ^ length ds ≡ suc n * 10 ^ suc (length ds) = mul_assoc (suc n) 10 (10 ^ length ds) ∙ ap (λ (x : ℕ). suc n * x) (mul_comm 10 (10 ^ length ds) ∙ sym (pow-suc 10 (length ds))) in
    omega (arith, more, step, same)

plain_below : (int frac : List ℕ) → AreDigits int → AreDigits frac → length int ≤ 18 → length frac ≤ 9 → plain_units int frac < amount_limit
plain_below int frac di df few short =
    let v = digits_value 0 (int ++ frac) in
    let k = 9 - length frac in
    let count : length (int ++ frac) + k ≡ length int + 9 = omega (arith, length-append int frac) in
    let value = digits_below 0 (int ++ frac) (digits_both int frac di df) in
    let scaled : suc v * 10 ^ k ≤ 10 ^ length (int ++ frac) * 10 ^ k = mul-le-mul_right (10 ^ k) (omega (arith, value)) in
    let grown : 10 ^ length (int ++ frac) * 10 ^ k ≡ 10 ^ (length int + 9) = sym (pow-add 10 (length (int ++ frac)) k) ∙ ap (λ (x : ℕ). 10 ^ x) count in
    let most = tens_grow (length int + 9) 27 (omega (arith, few)) in
    omega (arith, scaled, grown, most, tens_above k)

-- a number without an exponent, of few digits before and behind the point, is in the limits
pub few_fit : (s : List ℕ) → IsNumeral s → length s ≤ max_number_len → exponent s ≡ [] → length (integer s) ≤ 18 → length (fraction s) ≤ 9 → is_over s ≡ false
few_fit s numeral short none few decimals =
    let parts = numeral_parts s numeral in
    let n = plain_units (integer s) (fraction s) in
    let below = plain_below (integer s) (fraction s) parts.integer_is parts.fraction_is few decimals in
    (fits_amount s n short (subst (λ (t : List ℕ). IsAmount (integer s) (fraction s) t n) (sym none) (plain_exact (integer s) (fraction s) n decimals refl below))).1
