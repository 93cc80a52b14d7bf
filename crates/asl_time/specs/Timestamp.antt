-- Which texts are timestamps, and of which moments: date-time of RFC 3339, section 5.6, with
-- seconds to 59,
-- upper-case letters, and the moment rounded up to the millisecond.
use Rattle.std.specs.Prelude.{◌≡◌, ◌≤◌, ◌<◌, ℕ, ◌+◌, ◌*◌, ◌^◌, List, [], ◌∷◌, ◌++◌, length, codes, ℤ, pos, neg_ℤ, ◌+ℤ◌, ◌-ℤ◌, ◌*ℤ◌, ◌≤ℤ◌}
use Rattle.std.specs.Str.Parse.{AllDigits, digits_value}
use Rattle.jiff.specs.Words.{civil_seconds}
use Rattle.jiff_core.specs.declared.civil.datetime.DateTime.{DateTime}
use Rattle.asl_time.specs.Stamp.{digits, to_the_second}

-- the digits of a fraction behind a point, and nothing where there are none (time-secfrac)
abbrev pub secfrac : List ℕ → List ℕ
secfrac [] = []
secfrac (c ∷ cs) = codes "." ++ (c ∷ cs)

-- the least number of thousandths that is no less than the fraction with these digits
pub record IsRoundedUp (fraction : List ℕ) (thousandths : ℕ) : Type 0 where
  pub enough : 1000 * digits_value 10 fraction ≤ thousandths * 10 ^ length fraction
  pub least : thousandths * 10 ^ length fraction < 1000 * digits_value 10 fraction + 10 ^ length
      fraction

-- a sign, then hours to 23 and minutes to 59, which are so many minutes (time-numoffset)
pub record IsNumericOffset (sign : List ℕ) (minutes : ℕ) (t : List ℕ) : Type 0 where
  pub hour : ℕ
  pub minute : ℕ
  pub hour_in : hour < 24
  pub minute_in : minute < 60
  pub sum : minutes ≡ hour * 60 + minute
  pub text : t ≡ sign ++ digits 2 hour ++ codes ":" ++ digits 2 minute

-- t says that clocks stand so many minutes ahead of UTC (time-offset)
pub data IsOffset (ahead : ℤ) (t : List ℕ) : Type 0 where
  utc : t ≡ codes "Z" → ahead ≡ pos 0 → IsOffset ahead t
  plus : (minutes : ℕ) → IsNumericOffset (codes "+") minutes t → ahead ≡ pos minutes
      → IsOffset ahead t
  minus : (minutes : ℕ) → IsNumericOffset (codes "-") minutes t → ahead ≡ neg_ℤ (pos minutes)
      → IsOffset ahead t

-- t is a timestamp of moment m, in milliseconds since 1970-01-01T00:00:00Z; none is later than
-- 9999-12-31T23:59:59.999Z
pub record IsTimestamp (t : List ℕ) (m : ℕ) : Type 0 where
  -- what calendar and clock show there, of which the whole seconds count
  pub shown : DateTime
  pub after_zero : pos 0 ≤ℤ shown.date.year
  pub fraction : List ℕ
  pub fraction_digits : AllDigits 10 fraction
  pub ahead : ℤ
  pub zone : List ℕ
  pub zone_offset : IsOffset ahead zone
  pub text : t ≡ to_the_second shown ++ secfrac fraction ++ zone
  pub thousandths : ℕ
  pub rounded : IsRoundedUp fraction thousandths
  pub moment : pos m ≡ (civil_seconds shown -ℤ ahead *ℤ pos 60) *ℤ pos 1_000 +ℤ pos thousandths
  pub in_range : m ≤ 253_402_300_799_999
