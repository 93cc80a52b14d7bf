-- Which numbers the key of an answer stands for: `N` for itself, `low-high` for all from low to
-- high.
use Rattle.std.specs.Prelude.{ℕ, ◌+◌, ◌-◌, ◌*◌, List, [], ◌∷◌, Bool, ◌&&◌, nat_le, ◌==◌, Option, Some, None, if◌then◌else◌, length}
use Rattle.std.specs.List.{before_first, after_first, list_any}
use Rattle.std.specs.Str.{all_ascii_digits}
use Rattle.asl_mock.specs.declared.key.Span.{Span}

-- the number that decimal digits spell behind those that spell n
abbrev pub read_on : ℕ → List ℕ → ℕ
read_on n [] = n
read_on n (d ∷ ds) = read_on (10 * n + (d - 48)) ds

-- from 1 to 9 decimal digits
abbrev pub is_number : List ℕ → Bool
is_number t = nat_le 1 (length t) && (nat_le (length t) 9 && all_ascii_digits t)

abbrev pub number_in : List ℕ → Option ℕ
number_in t = if is_number t then Some (read_on 0 t) else None

-- low at most high
abbrev pub span_of : Option ℕ → Option ℕ → Option Span
span_of (Some a) (Some b) = if nat_le a b then Some (record { low = a; high = b }) else None
span_of (Some a) None = None
span_of None b = None

abbrev pub is_dash : ℕ → Bool
is_dash b = b == 45

-- the numbers of a key, where it is one
abbrev pub span_in : List ℕ → Option Span
span_in t =
    if list_any is_dash t
    then span_of (number_in (before_first is_dash t)) (number_in (after_first is_dash t))
    else span_of (number_in t) (number_in t)
