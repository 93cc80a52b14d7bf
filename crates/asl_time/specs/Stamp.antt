-- The text of a moment: RFC 3339, section 5.6, in UTC and to the millisecond.
use Rattle.std.specs.Prelude.{◌≡◌, ℕ, zero, suc, ◌+◌, ◌/◌, ◌%◌, List, [], ◌∷◌, ◌++◌, codes, pos, ◌*ℤ◌, unsigned_abs}
use Rattle.jiff.specs.Words.{civil_nanos}
use Rattle.jiff_core.specs.declared.civil.date.Date.{Date}
use Rattle.jiff_core.specs.declared.civil.time.Time.{Time}
use Rattle.jiff_core.specs.declared.civil.datetime.DateTime.{DateTime}

-- so many of the last decimal digits of a number, as ASCII codes
unfoldable pub digits : ℕ → ℕ → List ℕ
digits zero n = []
digits (suc k) n = digits k (n / 10) ++ (48 + n % 10) ∷ []

-- YYYY-MM-DD (full-date)
abbrev pub full_date : Date → List ℕ
full_date date =
    digits 4 (unsigned_abs date.year) ++ codes "-" ++ digits 2 date.month ++ codes "-"
    ++ digits 2 date.day

-- hh:mm:ss (partial-time without its fraction)
abbrev pub whole_time : Time → List ℕ
whole_time time =
    digits 2 time.hour ++ codes ":" ++ digits 2 time.minute ++ codes ":" ++ digits 2 time.second

-- YYYY-MM-DDThh:mm:ss
abbrev pub to_the_second : DateTime → List ℕ
to_the_second shown = full_date shown.date ++ codes "T" ++ whole_time shown.time

-- YYYY-MM-DDThh:mm:ss.mmmZ
abbrev pub spelled : DateTime → List ℕ
spelled shown =
    to_the_second shown ++ codes "." ++ digits 3 (shown.time.subsec_nanosecond / 1_000_000)
    ++ codes "Z"

-- t has the form YYYY-MM-DDThh:mm:ss.mmmZ, with a decimal digit for each small letter and each of
-- Y, M and D
pub record HasForm (t : List ℕ) : Type 0 where
  pub year : ℕ
  pub month : ℕ
  pub day : ℕ
  pub hour : ℕ
  pub minute : ℕ
  pub second : ℕ
  pub milli : ℕ
  pub text : t
      ≡ digits 4 year ++ codes "-" ++ digits 2 month ++ codes "-" ++ digits 2 day ++ codes "T"
      ++ digits 2 hour ++ codes ":" ++ digits 2 minute ++ codes ":" ++ digits 2 second ++ codes "."
      ++ digits 3 milli ++ codes "Z"

-- t is the text of what calendar and clock show in UTC at moment m
pub record IsStampOf (m : ℕ) (t : List ℕ) : Type 0 where
  pub shown : DateTime
  pub at_moment : civil_nanos shown ≡ pos m *ℤ pos 1_000_000
  pub text : t ≡ spelled shown
