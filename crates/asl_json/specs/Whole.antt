-- Whole numbers.
use Rattle.std.specs.Prelude.{ℕ, ℤ, pos, List, Option, Some, None, int_div, int_rem, if◌then◌else◌}
use Rattle.std.specs.Ordering.{int_eq}
use Rattle.asl_json_data.specs.Number.{units_of}

-- the units of 10 ^ -9 in 1
abbrev pub one : ℤ
one = pos 1000000000

-- the whole number that so many units are, where they are one
abbrev pub whole_in : ℤ → Option ℤ
whole_in u = if int_eq (int_rem u one) (pos 0) then Some (int_div u one) else None

-- the whole number that a number is, where it is one
abbrev pub whole_of : List ℕ → Option ℤ
whole_of s = whole_in (units_of s)
