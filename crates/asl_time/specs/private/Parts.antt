-- How a text goes on behind the parts of a timestamp: words of private contracts.
use Rattle.std.specs.Prelude.{◌≡◌, ℕ, List, ◌++◌, codes, pos, ◌≤ℤ◌}
use Rattle.jiff_core.specs.declared.civil.date.Date.{Date}
use Rattle.jiff_core.specs.declared.civil.time.Time.{Time}
use Rattle.std.specs.Str.Parse.{AllDigits}
use Rattle.asl_time.specs.Stamp.{full_date, whole_time}
use Rattle.asl_time.specs.Timestamp.{secfrac, IsRoundedUp}

-- t is a date from year 0 on, and then rest
pub record BeginsWithDate (t : List ℕ) (date : Date) (rest : List ℕ) : Type 0 where
  pub after_zero : pos 0 ≤ℤ date.year
  pub text : t ≡ full_date date ++ rest

-- t is the time on a clock behind a T, and then rest
pub record BeginsWithTime (t : List ℕ) (time : Time) (rest : List ℕ) : Type 0 where
  pub text : t ≡ codes "T" ++ whole_time time ++ rest

-- t is a fraction that rounds up to n thousandths, and then rest
pub record BeginsWithFraction (t : List ℕ) (n : ℕ) (rest : List ℕ) : Type 0 where
  pub fraction : List ℕ
  pub fraction_digits : AllDigits 10 fraction
  pub text : t ≡ secfrac fraction ++ rest
  pub rounded : IsRoundedUp fraction n
