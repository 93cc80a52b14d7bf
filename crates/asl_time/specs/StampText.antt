-- The text of each moment: `YYYY-MM-DDThh:mm:ss.mmmZ`, in UTC (RFC 3339, section 5.6).
use Rattle.std.specs.Prelude.{ℕ, zero, suc, ◌+◌, ◌/◌, ◌%◌, nat_lt, if◌then◌else◌, List, ◌++◌, codes, pos}
use Rattle.jiff_core.specs.Calendar.{days_in_month}
use Rattle.asl_time.specs.Stamp.{digits}

-- a day of the calendar
pub record Day : Type 0 where
  pub year : ℕ
  pub month : ℕ
  pub day : ℕ

-- the day after a day
abbrev pub next_day : Day → Day
next_day d =
    if nat_lt d.day (days_in_month (pos d.year) d.month)
    then record d { day = d.day + 1 }
    else (if nat_lt d.month 12 then record { year = d.year; month = d.month + 1; day = 1 }
    else record { year = d.year + 1; month = 1; day = 1 })

-- the day so many days after 1 January 1970
unfoldable pub day_on : ℕ → Day
day_on zero = record { year = 1970; month = 1; day = 1 }
day_on (suc n) = next_day (day_on n)

-- the day, and what a clock shows so many milliseconds after midnight
abbrev pub stamp_on : Day → ℕ → List ℕ
stamp_on day millis =
    digits 4 day.year ++ codes "-" ++ digits 2 day.month ++ codes "-" ++ digits 2 day.day
    ++ codes "T"
    ++ digits 2 (millis / 3_600_000) ++ codes ":" ++ digits 2 (millis / 60_000 % 60) ++ codes ":"
    ++ digits 2 (millis / 1_000 % 60)
    ++ codes "." ++ digits 3 (millis % 1_000) ++ codes "Z"

-- the text of the moment so many milliseconds after 1 January 1970
unfoldable pub stamp_of : ℕ → List ℕ
stamp_of moment = stamp_on (day_on (moment / 86_400_000)) (moment % 86_400_000)
