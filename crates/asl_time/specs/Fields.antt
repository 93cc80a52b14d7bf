-- The moment of a timestamp as a function of its text, by the fields at their places: date-time of
-- RFC 3339, section 5.6,
-- with seconds to 59, upper-case letters, and the moment rounded up to the millisecond.
-- A text has the moment that `IsTimestamp` says, and no other: the law
-- `a_text_has_the_moment_of_its_fields`.
use Rattle.std.specs.Prelude.{ℕ, ◌+◌, ◌-◌, ◌*◌, ◌^◌, Bool, ◌&&◌, nat_eq, nat_lt, nat_le, if◌then◌else◌, List, ◌++◌, length, take, drop, get_or, bytes_eq, codes, Option, Some, None, option_and_then, ℤ, pos, negsuc, neg_ℤ, ◌+ℤ◌, ◌-ℤ◌, ◌*ℤ◌}
use Rattle.std.specs.Char.{is_digit}
use Rattle.std.specs.Int.{div_ceil}
use Rattle.std.specs.List.{list_all}
use Rattle.std.specs.Str.Parse.{digits_value}
use Rattle.jiff_core.specs.Calendar.{days_in_month, days_from_civil}
use Rattle.asl_time.specs.Stamp.{digits}
use Rattle.asl_time.specs.Timestamp.{secfrac}

-- the fields of a date-time; of the fraction its digits, and of the offset its text
pub record Fields : Type 0 where
  pub year : ℕ
  pub month : ℕ
  pub day : ℕ
  pub hour : ℕ
  pub minute : ℕ
  pub second : ℕ
  pub fraction : List ℕ
  pub offset : List ℕ

-- ---- where they stand in a text

-- the number that so many digits spell from this place on
abbrev pub number_at : ℕ → ℕ → List ℕ → ℕ
number_at count place t = digits_value 10 (take count (drop place t))

-- an offset that ends with a Z is that Z, and any other has six bytes
abbrev pub offset_size : ℕ → ℕ
offset_size last = if nat_eq last 90 then 1 else 6

-- it stands at the end
abbrev pub offset_place : List ℕ → ℕ
offset_place t = length t - offset_size (get_or t (length t - 1) 0)

-- YYYY-MM-DDThh:mm:ss, then a point and the fraction, or nothing, then the offset
unfoldable pub fields_in : List ℕ → Fields
fields_in t = record {
  year = number_at 4 0 t;
  month = number_at 2 5 t;
  day = number_at 2 8 t;
  hour = number_at 2 11 t;
  minute = number_at 2 14 t;
  second = number_at 2 17 t;
  fraction = drop 20 (take (offset_place t) t);
  offset = drop (offset_place t) t;
}

-- ---- which fields make a timestamp

-- the text that they spell
unfoldable pub text_of : Fields → List ℕ
text_of f =
    digits 4 f.year ++ codes "-" ++ digits 2 f.month ++ codes "-" ++ digits 2 f.day ++ codes "T"
    ++ digits 2 f.hour ++ codes ":" ++ digits 2 f.minute ++ codes ":" ++ digits 2 f.second
    ++ secfrac f.fraction ++ f.offset

-- the calendar has the day, in a year from 0 to 9999
abbrev pub is_day : ℕ → ℕ → ℕ → Bool
is_day year month day =
    nat_lt year 10_000
    && (nat_le 1 month
    && (nat_le month 12 && (nat_le 1 day && nat_le day (days_in_month (pos year) month))))

-- a clock shows the time
abbrev pub is_time : ℕ → ℕ → ℕ → Bool
is_time hour minute second = nat_lt hour 24 && (nat_lt minute 60 && nat_lt second 60)

abbrev pub are_valid : Fields → Bool
are_valid f =
    is_day f.year f.month f.day
    && (is_time f.hour f.minute f.second && list_all (λ c. is_digit c 10) f.fraction)

-- ---- what they mean

-- hours and minutes behind a sign (time-numoffset)
abbrev pub signed : List ℕ → ℕ → ℕ → List ℕ
signed sign hour minute = sign ++ digits 2 hour ++ codes ":" ++ digits 2 minute

-- the minutes that a clock stands ahead of UTC by an offset with these hours and minutes
abbrev pub ahead_by : List ℕ → ℕ → ℕ → Option ℤ
ahead_by offset hour minute =
    if bytes_eq offset (codes "Z") then Some (pos 0)
    else (if is_time hour minute 0 && bytes_eq offset (signed (codes "+") hour minute)
    then Some (pos (hour * 60 + minute))
    else (if is_time hour minute 0 && bytes_eq offset (signed (codes "-") hour minute)
    then Some (neg_ℤ (pos (hour * 60 + minute)))
    else None))

-- the same of the offset's text
unfoldable pub ahead_of_utc : List ℕ → Option ℤ
ahead_of_utc offset = ahead_by offset (number_at 2 1 offset) (number_at 2 4 offset)

-- the thousandths of a fraction, rounded up
unfoldable pub thousandths_of : List ℕ → ℕ
thousandths_of fraction = div_ceil (1000 * digits_value 10 fraction) (10 ^ length fraction)

-- the milliseconds since 1970-01-01T00:00:00Z, on a clock that stands so many minutes ahead of UTC
unfoldable pub millis_of : Fields → ℤ → ℤ
millis_of f ahead =
    (days_from_civil (pos f.year) f.month f.day *ℤ pos 86_400 +ℤ pos
    (f.hour * 3600 + f.minute * 60 + f.second) -ℤ ahead *ℤ pos 60)
    *ℤ pos 1_000 +ℤ pos (thousandths_of f.fraction)

-- moments are from 1970 to 9999
abbrev pub as_moment : ℤ → Option ℕ
as_moment (pos m) = if nat_le m 253_402_300_799_999 then Some m else None
as_moment (negsuc n) = None

-- the moment of a text with these fields: of one that they spell
abbrev pub moment_with : Fields → List ℕ → Option ℕ
moment_with f t =
    if are_valid f && bytes_eq t (text_of f)
    then option_and_then (λ ahead. as_moment (millis_of f ahead)) (ahead_of_utc f.offset)
    else None

-- the moment of a text, in milliseconds since 1970-01-01T00:00:00Z; a text that is no timestamp has
-- none
unfoldable pub moment_in : List ℕ → Option ℕ
moment_in t = moment_with (fields_in t) t
