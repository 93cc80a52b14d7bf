-- Numbers (RFC 8259, section 6): which texts spell one, what it means, and which are in the limits.
-- In the limits: at most 40 bytes, an amount below 10 ^ 18, and a whole number of units of 10 ^ -9.
use Rattle.std.specs.Prelude.{◌≡◌, ℕ, ◌+◌, ◌*◌, ◌-◌, ◌/◌, ◌%◌, ◌^◌, List, [], ◌∷◌, ◌++◌, length, Bool, true, false, not, ◌&&◌, ◌||◌, nat_le, nat_lt, ◌==◌, cond, ℤ, pos, neg_ℤ}

-- ---- the bytes of a number

unfoldable pub is_digit : ℕ → Bool
is_digit c = nat_le 48 c && nat_le c 57

unfoldable pub is_point : ℕ → Bool
is_point c = c == 46

-- e or E
unfoldable pub is_mark : ℕ → Bool
is_mark c = (c == 101) || (c == 69)

unfoldable pub is_sign : ℕ → Bool
is_sign c = (c == 43) || (c == 45)

abbrev pub AreDigits : List ℕ → Type 0
AreDigits [] = Unit {0}
AreDigits (c ∷ cs) = (is_digit c ≡ true) × AreDigits cs

-- one digit or several
abbrev pub IsDigits : List ℕ → Type 0
IsDigits [] = ⊥
IsDigits (c ∷ cs) = AreDigits (c ∷ cs)

-- ---- number = [ minus ] int [ frac ] [ exp ]

-- what stands behind the minus, where there is one
abbrev pub magnitude : List ℕ → List ℕ
magnitude [] = []
magnitude (c ∷ cs) = cond (c == 45) cs (c ∷ cs)

abbrev pub is_negative : List ℕ → Bool
is_negative [] = false
is_negative (c ∷ cs) = c == 45

-- what stands behind a plus or a minus, where there is one
abbrev pub unsigned : List ℕ → List ℕ
unsigned [] = []
unsigned (c ∷ cs) = cond (is_sign c) cs (c ∷ cs)

-- one digit, or several of which the first isn't 0
abbrev pub IsInt : List ℕ → Type 0
IsInt [] = ⊥
IsInt (c ∷ []) = is_digit c ≡ true
IsInt (c ∷ d ∷ cs) = (is_digit c ≡ true) × (((c == 48) ≡ false) × AreDigits (d ∷ cs))

-- nothing, or a point and digits
abbrev pub IsFrac : List ℕ → Type 0
IsFrac [] = Unit {0}
IsFrac (c ∷ cs) = (is_point c ≡ true) × IsDigits cs

-- nothing, or e or E, a sign or none, and digits
abbrev pub IsExp : List ℕ → Type 0
IsExp [] = Unit {0}
IsExp (c ∷ cs) = (is_mark c ≡ true) × IsDigits (unsigned cs)

-- int [ frac ] [ exp ]
pub record IsUnsigned (s : List ℕ) : Type 0 where
  pub int : List ℕ
  pub frac : List ℕ
  pub exp : List ℕ
  pub parts : s ≡ int ++ (frac ++ exp)
  pub int_is : IsInt int
  pub frac_is : IsFrac frac
  pub exp_is : IsExp exp

abbrev pub IsNumeral : List ℕ → Type 0
IsNumeral s = IsUnsigned (magnitude s)

-- some bytes behind it make it a number (RFC 8259, section 6)
pub record IsNumeralFront (s : List ℕ) : Type 0 where
  pub more : List ℕ
  pub is_numeral : IsNumeral (s ++ more)

-- ---- what a number means: its digits without the point, times 10 to its exponent less the length
-- of its fraction

-- the bytes before the first one of which p holds, and those behind it
abbrev pub before : (ℕ → Bool) → List ℕ → List ℕ
before p [] = []
before p (c ∷ cs) = cond (p c) [] (c ∷ before p cs)

abbrev pub behind : (ℕ → Bool) → List ℕ → List ℕ
behind p [] = []
behind p (c ∷ cs) = cond (p c) cs (behind p cs)

abbrev pub significand : List ℕ → List ℕ
significand s = before is_mark (magnitude s)

abbrev pub integer : List ℕ → List ℕ
integer s = before is_point (significand s)

abbrev pub fraction : List ℕ → List ℕ
fraction s = behind is_point (significand s)

-- the exponent with its sign
abbrev pub exponent : List ℕ → List ℕ
exponent s = behind is_mark (magnitude s)

-- the number that digits spell, after those that spell n
abbrev pub digits_value : ℕ → List ℕ → ℕ
digits_value n [] = n
digits_value n (c ∷ cs) = digits_value (n * 10 + (c - 48)) cs

-- how far an exponent is above 0, and how far below
abbrev pub raised : List ℕ → ℕ
raised e = cond (is_negative e) 0 (digits_value 0 (unsigned e))

abbrev pub lowered : List ℕ → ℕ
lowered e = cond (is_negative e) (digits_value 0 (unsigned e)) 0

-- a number's amount in units of 10 ^ -9 is dividend / divisor, a whole number or not (closed, since
-- an exponent may be large)
unfoldable pub dividend : List ℕ → ℕ
dividend s = digits_value 0 (integer s ++ fraction s) * 10 ^ (9 + raised (exponent s))

unfoldable pub divisor : List ℕ → ℕ
divisor s = 10 ^ (length (fraction s) + lowered (exponent s))

abbrev pub amount_of : List ℕ → ℕ
amount_of s = dividend s / divisor s

-- a number's value in units of 10 ^ -9
abbrev pub units_of : List ℕ → ℤ
units_of s = cond (is_negative s) (neg_ℤ (pos (amount_of s))) (pos (amount_of s))

-- ---- the limits

abbrev pub max_number_len : ℕ
max_number_len = 40

-- 10 ^ 18 in units of 10 ^ -9
abbrev pub amount_limit : ℕ
amount_limit = 10 ^ 27

-- a number past the limits
unfoldable pub is_over : List ℕ → Bool
is_over s =
    nat_lt max_number_len (length s)
    || (not (dividend s % divisor s == 0) || nat_le amount_limit (amount_of s))

-- a number in the limits
abbrev pub IsNumber : List ℕ → Type 0
IsNumber s = IsNumeral s × (is_over s ≡ false)

-- no number goes on from this one over the next byte
abbrev pub EndsNumber : List ℕ → List ℕ → Type 0
EndsNumber s [] = Unit {0}
EndsNumber s (c ∷ post) = (more : List ℕ) → IsNumeral (s ++ c ∷ more) → ⊥
