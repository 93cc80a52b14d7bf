-- What a retrier says of its attempts and delays, from its canonical object. (Amazon States
-- Language, "Retrying after error".)
use Rattle.std.specs.Prelude.{ℕ, nat_abs, ℤ, Option, Some, None, codes}
use Rattle.asl_json_data.specs.Data.{Data, number}
use Rattle.asl_json.specs.Meaning.{value_in}
use Rattle.asl_json_data.specs.Number.{units_of}
use Rattle.asl_json.specs.Whole.{whole_of}

-- in a definition without faults these numbers are whole and none is negative
abbrev pub whole : Option ℤ → ℕ
whole (Some n) = nat_abs n
whole None = 0

-- the number of a member, or the one that counts where there is none
abbrev pub whole_or : ℕ → Option Data → ℕ
whole_or default (Some (number n)) = whole (whole_of n)
whole_or default o = default

abbrev pub units_or : ℕ → Option Data → ℕ
units_or default (Some (number n)) = nat_abs (units_of n)
units_or default o = default

-- the seconds before the first retry
abbrev pub interval_of : Data → ℕ
interval_of r = whole_or 1 (value_in (codes "IntervalSeconds") r)

-- how often a state is retried
abbrev pub attempts_of : Data → ℕ
attempts_of r = whole_or 3 (value_in (codes "MaxAttempts") r)

-- the factor by which each delay is longer than the one before, in units of 10^-9
abbrev pub rate_of : Data → ℕ
rate_of r = units_or 2_000_000_000 (value_in (codes "BackoffRate") r)

abbrev pub whole_in : Option Data → Option ℕ
whole_in (Some (number n)) = Some (whole (whole_of n))
whole_in o = None

-- the seconds of the longest delay, where it says so
abbrev pub delay_limit_of : Data → Option ℕ
delay_limit_of r = whole_in (value_in (codes "MaxDelaySeconds") r)
