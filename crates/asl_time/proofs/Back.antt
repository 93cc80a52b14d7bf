-- What is printed reads back.
use Rattle.std.proofs.Common.{◌≡◌, ◌<◌, ◌≤◌, ◌+◌, ◌^◌, ◌/◌, ◌%◌, ℕ, zero, suc, List, [], ◌∷◌, ◌++◌, pos, ◌+ℤ◌, ◌-ℤ◌, ◌*ℤ◌, ◌≤ℤ◌, ◌∙◌, arith, append_assoc, refl}
use Rattle.std.specs.Prelude.{codes}
use Rattle.std.proofs.lemmas.Bool.Decides.{nat_tests}
use Rattle.std.proofs.lemmas.Int.{by_lt_z}
use Rattle.std.proofs.lemmas.Int.Digits.{digits_value_push}
use Rattle.std.specs.Char.{digit_value}
use Rattle.std.specs.Str.Parse.{AllDigits, digits_value}
use Rattle.jiff_core.proofs.CalendarLemmas.{day_count-lt_year}
use Rattle.jiff_core.proofs.DateLemmas.{civil}
use Rattle.jiff_core.proofs.DateTimeLemmas.{civil_nanos-parts, civil_nanos-civil_seconds, time_nanos_bound}
use Rattle.jiff_core.proofs.SignedLemmas.{signed_arith}
use Rattle.jiff_core.specs.Calendar.{days_from_civil}
use Rattle.jiff_core.specs.Date.{epoch_day}
use Rattle.jiff_core.specs.DateTime.{civil_nanos, civil_seconds}
use Rattle.jiff_core.specs.declared.civil.date.Date.{Date}
use Rattle.jiff_core.specs.declared.civil.datetime.DateTime.{DateTime}
use native.Mathlib.Numerals.{unary_clauses}
use Rattle.asl_time.specs.Stamp.{digits, IsStampOf}
use Rattle.asl_time.specs.Timestamp.{secfrac, utc, IsRoundedUp, IsTimestamp}
use Rattle.asl_time.proofs.Spelling.{digits_length}

digit_value_small : (d : ℕ) → d < 10 → digit_value (48 + d) ≡ d
digit_value_small d l = grind (arith, nat_tests)

push_digit : (ds : List ℕ) (c : ℕ) → AllDigits 10 ds → digit_value c < 10 → AllDigits 10 (ds ++ (c ∷ []))
push_digit [] c h l = (l, tt)
push_digit (d ∷ ds) c h l = (h.0, push_digit ds c h.1 l)

pub digits_digits : (k n : ℕ) → AllDigits 10 (digits k n)
unfolding digits
digits_digits zero n = tt
digits_digits (suc k) n =
    let v = digit_value_small (n % 10) (omega arith) in
    push_digit (digits k (n / 10)) (48 + n % 10) (digits_digits k (n / 10)) (rw v (omega arith))

-- so many digits spell their number
pub digits_value_digits : (k n : ℕ) → n < 10 ^ k → digits_value 10 (digits k n) ≡ n
unfolding digits
digits_value_digits zero n l = omega arith
digits_value_digits (suc k) n l =
    let m : n / 10 < 10 ^ k = omega (arith, simp unary_clauses at l) in
    let v = digit_value_small (n % 10) (omega arith) in
    digits_value_push 10 (digits k (n / 10)) (48 + n % 10) ∙ rw (digits_value_digits k (n / 10) m, v) (omega arith)

pub thousandths_round : (n : ℕ) → n < 1000 → IsRoundedUp (digits 3 n) n
thousandths_round n l =
    let value = digits_value_digits 3 n l in
    let size = digits_length 3 n in
    record { enough = rw (value, size) (omega arith); least = rw (value, size) (omega arith) }

pub secfrac_digits : (n : ℕ) → secfrac (digits 3 n) ≡ codes "." ++ digits 3 n
unfolding digits
secfrac_digits n = refl

-- the day 0 is in 1970, and no later day in an earlier year
year_from_day : (date : Date) → pos 0 ≤ℤ epoch_day date → pos 1970 ≤ℤ date.year
unfolding days_from_civil
year_from_day date h =
    by_lt_z date.year (pos 1970) (λ lt. absurd (omega (arith, signed_arith, day_count-lt_year date.year date.month date.day (pos 1970) 1 1 (civil date) (omega arith) lt)))
    (λ le. omega (arith, signed_arith))

day_from_moment : (shown : DateTime) (m : ℕ) → civil_nanos shown ≡ pos m *ℤ pos 1_000_000 → pos 0 ≤ℤ epoch_day shown.date
day_from_moment shown m e =
    omega (arith, signed_arith, civil_nanos-parts shown, time_nanos_bound shown.time)

millis_from_moment : (shown : DateTime) (m : ℕ) → civil_nanos shown ≡ pos m *ℤ pos 1_000_000 → pos m ≡ (civil_seconds shown -ℤ pos 0 *ℤ pos 60) *ℤ pos 1_000 +ℤ pos (shown.time.subsec_nanosecond / 1_000_000)
millis_from_moment shown m e =
    omega (arith, signed_arith, civil_nanos-civil_seconds shown)

pub stamp_back : (m : ℕ) (t : List ℕ) → m ≤ 253_402_300_799_999 → IsStampOf m t → IsTimestamp t m
stamp_back m t b s =
    let n = s.shown.time.subsec_nanosecond / 1_000_000 in
    let l : s.shown.time.subsec_nanosecond < 1_000_000_000 = s.shown.time.subsec_in in
    let year : pos 1970 ≤ℤ s.shown.date.year = year_from_day s.shown.date (day_from_moment s.shown m s.at_moment) in
    record {
      shown = s.shown;
      after_zero = omega (arith, signed_arith);
      fraction = digits 3 n;
      fraction_digits = digits_digits 3 n;
      ahead = pos 0;
      zone = codes "Z";
      zone_offset = utc refl refl;
      text = s.text ∙ rw (secfrac_digits n) (simp append_assoc);
      thousandths = n;
      rounded = thousandths_round n (omega arith);
      moment = millis_from_moment s.shown m s.at_moment;
      in_range = b;
    }
