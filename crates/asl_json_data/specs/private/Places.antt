-- What a part of the reader answers of a number's digits, for its private contracts.
use Rattle.std.specs.Prelude.{◌≡◌, ℕ, ◌+◌, ◌*◌, ◌-◌, ◌/◌, ◌%◌, ◌^◌, ◌<◌, ◌≤◌, List, [], ◌∷◌, ◌++◌, length, take, drop}
use Rattle.asl_json_data.specs.Number.{digits_value, raised, lowered, amount_limit}

abbrev pub AreZeros : List ℕ → Type 0
AreZeros [] = Unit {0}
AreZeros (c ∷ cs) = (c ≡ 48) × AreZeros cs

-- there are none, or the last one isn't 0
abbrev pub EndsAboveZero : List ℕ → Type 0
EndsAboveZero [] = Unit {0}
EndsAboveZero (c ∷ []) = c ≡ 48 → ⊥
EndsAboveZero (c ∷ d ∷ cs) = EndsAboveZero (d ∷ cs)

-- behind i digits before the point and f behind it there are only zeros
pub record IsStripped (integer fraction : List ℕ) (i f : ℕ) : Type 0 where
  pub integer_within : i ≤ length integer
  pub fraction_within : f ≤ length fraction
  pub integer_zeros : AreZeros (drop i integer)
  pub fraction_zeros : AreZeros (drop f fraction)
  pub all_integer : 0 < f → i ≡ length integer
  pub last : EndsAboveZero (take i integer ++ take f fraction)

-- n is number times 10 to the power of up less down, and below the limit
pub record IsShifted (number up down n : ℕ) : Type 0 where
  pub whole : 0 < number → down ≤ up
  pub value : n ≡ number * 10 ^ (up - down)
  pub below : n < amount_limit

-- there is no such n
abbrev pub IsUnshiftable : ℕ → ℕ → ℕ → Type 0
IsUnshiftable number up down = (0 < number) × (down ≤ up → amount_limit ≤ number * 10 ^ (up - down))

abbrev pub dividend_of : List ℕ → List ℕ → List ℕ → ℕ
dividend_of integer fraction exponent =
    digits_value 0 (integer ++ fraction) * 10 ^ (9 + raised exponent)

abbrev pub divisor_of : List ℕ → List ℕ → ℕ
divisor_of fraction exponent = 10 ^ (length fraction + lowered exponent)

-- n is their quotient, and below the limit
pub record IsAmount (integer fraction exponent : List ℕ) (n : ℕ) : Type 0 where
  pub whole : dividend_of integer fraction exponent % divisor_of fraction exponent ≡ 0
  pub value : n ≡ dividend_of integer fraction exponent / divisor_of fraction exponent
  pub below : n < amount_limit

-- there is no such n
abbrev pub IsBeyond : List ℕ → List ℕ → List ℕ → Type 0
IsBeyond integer fraction exponent =
    dividend_of integer fraction exponent % divisor_of fraction exponent ≡ 0
    → amount_limit ≤ dividend_of integer fraction exponent / divisor_of fraction exponent
