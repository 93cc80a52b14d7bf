-- The bytes of a number, one by one: how much of a number there is behind them.
use Rattle.std.specs.Prelude.{ℕ, Bool, true, false, cond, ◌==◌, List, [], ◌∷◌, Option, Some, None}
use Rattle.asl_json_data.specs.Number.{is_digit, is_point, is_mark, is_sign}
use Rattle.asl_json_data.specs.declared.part.Part.{Part}
use Rattle.asl_json_data.specs.declared.part.Part.TheVariants.{Start, Minus, Nought, Whole, Point, Fraction, Mark, Sign, Exponent}

-- how a digit goes on with a number of which there is nothing yet, or a minus
unfoldable pub leading : ℕ → Option Part
leading c = cond (c == 48) (Some Nought) (cond (is_digit c) (Some Whole) None)

-- how it goes on behind the digits before the point, and behind those of the fraction
unfoldable pub marked : ℕ → Option Part
marked c = cond (is_mark c) (Some Mark) None

unfoldable pub pointed : ℕ → Option Part
pointed c = cond (is_point c) (Some Point) (marked c)

-- how much of a number there is behind one byte more, where a number may go on with it
unfoldable pub next_part : Part → ℕ → Option Part
next_part Start c = cond (c == 45) (Some Minus) (leading c)
next_part Minus c = leading c
next_part Nought c = pointed c
next_part Whole c = cond (is_digit c) (Some Whole) (pointed c)
next_part Point c = cond (is_digit c) (Some Fraction) None
next_part Fraction c = cond (is_digit c) (Some Fraction) (marked c)
next_part Mark c = cond (is_digit c) (Some Exponent) (cond (is_sign c) (Some Sign) None)
next_part Sign c = cond (is_digit c) (Some Exponent) None
next_part Exponent c = cond (is_digit c) (Some Exponent) None

-- the same behind several bytes
abbrev pub part_behind : Option Part → List ℕ → Option Part
part_behind o [] = o
part_behind None (c ∷ cs) = None
part_behind (Some p) (c ∷ cs) = part_behind (next_part p c) cs

-- whether a digit leaves this part as it is
abbrev pub takes_digits : Part → Bool
takes_digits Whole = true
takes_digits Fraction = true
takes_digits Exponent = true
takes_digits _ = false

-- whether a number may end there
abbrev pub may_end : Part → Bool
may_end Nought = true
may_end Whole = true
may_end Fraction = true
may_end Exponent = true
may_end _ = false

abbrev pub is_part : Option Part → Bool
is_part None = false
is_part (Some p) = true

abbrev pub ends_part : Option Part → Bool
ends_part None = false
ends_part (Some p) = may_end p

-- a number may begin with these bytes
unfoldable pub is_number_front : List ℕ → Bool
is_number_front s = is_part (part_behind (Some Start) s)

-- these bytes are a number, with limits or without
unfoldable pub is_number : List ℕ → Bool
is_number s = ends_part (part_behind (Some Start) s)
