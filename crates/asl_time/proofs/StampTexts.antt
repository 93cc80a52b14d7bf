-- Each moment up to the last one has its text.
use Rattle.std.proofs.Common.{ℕ, zero, suc, ◌≡◌, ◌≤◌, ◌<◌, ◌+◌, ◌*◌, ◌/◌, ◌%◌, Bool, true, false, append_assoc, refl, ◌∙◌, ap, arith, ℤ, pos, ◌+ℤ◌, ◌*ℤ◌, cond}
use Rattle.std.specs.Prelude.{nat_lt}
use Rattle.std.proofs.lemmas.Bool.{ltb-true, ltb-false}
use Rattle.jiff_core.specs.Calendar.{IsCivilDate, days_in_month, days_from_civil}
use Rattle.jiff_core.specs.DateTime.{civil_nanos}
use Rattle.jiff_core.specs.declared.civil.date.Date.{Date}
use Rattle.jiff_core.specs.declared.civil.time.Time.{Time}
use Rattle.jiff_core.specs.declared.civil.datetime.DateTime.{DateTime}
use Rattle.jiff_core.proofs.CalendarLemmas.{days_in_month_bounds, day_count-epoch}
use Rattle.jiff_core.proofs.DateLemmas.{days_from_civil-day, days_from_civil-next_month, days_from_civil-next_year, days_from_civil-max}
use Rattle.jiff_core.proofs.DateTimeLemmas.{civil_nanos-parts}
use Rattle.jiff_core.proofs.SignedLemmas.{signed_arith}
use Rattle.asl_time.specs.Stamp.{IsStampOf, spelled}
use Rattle.asl_time.specs.StampText.{Day, day_on, next_day, stamp_on, stamp_of}

-- the calendar has the day, and its number is n
record IsDayOn (n : ℕ) (d : Day) : Type 0 where
  civil : IsCivilDate (pos d.year) d.month d.day
  number : days_from_civil (pos d.year) d.month d.day ≡ pos n

first_number : days_from_civil (pos 1970) 1 1 ≡ pos 0
unfolding days_from_civil
first_number = rw day_count-epoch refl

first_day : IsDayOn 0 (record { year = 1970; month = 1; day = 1 })
first_day = record { civil = ((omega (arith, signed_arith), omega (arith, signed_arith)), (omega arith, omega arith), (omega arith, omega arith)); number = first_number }

later_day : (n y m d : ℕ) → IsDayOn n (record { year = y; month = m; day = d }) → d < days_in_month (pos y) m → IsDayOn (suc n) (record { year = y; month = m; day = d + 1 })
later_day n y m d h within =
    let same = days_from_civil-day (pos y) m (d + 1) d (omega arith) (omega arith) in
    let number = h.number in
    record { civil = (h.civil.0, h.civil.1, (omega arith, omega arith)); number = omega (arith, signed_arith, same, number) }

later_month : (n y m d : ℕ) → IsDayOn n (record { year = y; month = m; day = d }) → d ≡ days_in_month (pos y) m → m < 12 → IsDayOn (suc n) (record { year = y; month = m + 1; day = 1 })
later_month n y m d h last within =
    let same = days_from_civil-next_month (pos y) m d h.civil.1.0 last in
    let number = h.number in
    let some = days_in_month_bounds (pos y) (m + 1) in
    record { civil = (h.civil.0, (omega arith, omega arith), (omega arith, omega arith)); number = omega (arith, signed_arith, same, number) }

not_last : (n y : ℕ) → n < 2932896 → days_from_civil (pos y) 12 31 ≡ pos n → y ≡ 9999 → ⊥
not_last n y within h e =
    let last = days_from_civil-max in
    let here : days_from_civil (pos 9999) 12 31 ≡ pos n = rw (← e) h in
    absurd (omega (arith, signed_arith, last, here))

later_year : (n y : ℕ) → n < 2932896 → IsDayOn n (record { year = y; month = 12; day = 31 }) → IsDayOn (suc n) (record { year = y + 1; month = 1; day = 1 })
later_year n y within h =
    let same = days_from_civil-next_year (pos y) (pos (y + 1)) (omega (arith, signed_arith)) refl in
    let number = h.number in
    let before = not_last n y within number in
    let year = h.civil.0.1 in
    record { civil = ((omega (arith, signed_arith), omega (arith, signed_arith, year, before)), (omega arith, omega arith), (omega arith, omega arith)); number = omega (arith, signed_arith, same, number) }

december : (n y m d : ℕ) → n < 2932896 → IsDayOn n (record { year = y; month = m; day = d }) → d ≡ days_in_month (pos y) m → m ≡ 12 → IsDayOn (suc n) (record { year = y + 1; month = 1; day = 1 })
december n y m d within h last twelfth =
    let last_day : d ≡ 31 = rw twelfth at last in
    later_year n y within (rw (twelfth, last_day) at h)

later : (n y m d : ℕ) (b c : Bool) → n < 2932896 → nat_lt d (days_in_month (pos y) m) ≡ b → nat_lt m 12 ≡ c → IsDayOn n (record { year = y; month = m; day = d })
    → IsDayOn (suc n) (cond b (record { year = y; month = m; day = d + 1 }) (cond c (record { year = y; month = m + 1; day = 1 }) (record { year = y + 1; month = 1; day = 1 })))
later n y m d true c within e f h = later_day n y m d h (ltb-true d (days_in_month (pos y) m) e)
later n y m d false true within e f h =
    let last = ltb-false d (days_in_month (pos y) m) e in
    later_month n y m d h (omega arith) (ltb-true m 12 f)
later n y m d false false within e f h =
    let last = ltb-false d (days_in_month (pos y) m) e in
    let twelfth = ltb-false m 12 f in
    december n y m d within h (omega arith) (omega arith)

next : (n : ℕ) (d : Day) → n < 2932896 → IsDayOn n d → IsDayOn (suc n) (next_day d)
next n d within h = later n d.year d.month d.day _ _ within refl refl h

IsDayOn-day_on : (n : ℕ) → n ≤ 2932896 → IsDayOn n (day_on n)
unfolding day_on
IsDayOn-day_on zero within = first_day
IsDayOn-day_on (suc n) within = next n (day_on n) (omega arith) (IsDayOn-day_on n (omega arith))

-- ---- the clock

nanos_of_millis : (s : ℕ) → (s / 3_600_000 * 3600 + s / 60_000 % 60 * 60 + s / 1_000 % 60) * 1_000_000_000 + s % 1_000 * 1_000_000 ≡ s * 1_000_000
nanos_of_millis s = omega arith

date_of : (n : ℕ) (d : Day) → IsDayOn n d → Date
date_of n d h = record { year = pos d.year; month = d.month; day = d.day; year_in = h.civil.0; month_in = h.civil.1; day_in = h.civil.2 }

time_of : (s : ℕ) → s < 86_400_000 → Time
time_of s l = record {
  hour = s / 3_600_000;
  minute = s / 60_000 % 60;
  second = s / 1_000 % 60;
  subsec_nanosecond = s % 1_000 * 1_000_000;
  hour_in = omega arith;
  minute_in = omega arith;
  second_in = omega arith;
  subsec_in = omega arith;
}

shown_at : (n s : ℕ) (d : Day) → IsDayOn n d → s < 86_400_000 → DateTime
shown_at n s d h l = record { date = date_of n d h; time = time_of s l }

nanos_sum : (z : ℤ) (n t s m : ℕ) → z ≡ pos n → t ≡ s * 1_000_000 → n * 86_400_000 + s ≡ m → z *ℤ pos 86_400_000_000_000 +ℤ pos t ≡ pos m *ℤ pos 1_000_000
nanos_sum z n t s m day clock e = rw day (ap pos (omega arith))

nanos_shown : (n s m : ℕ) (d : Day) (h : IsDayOn n d) (l : s < 86_400_000) → n * 86_400_000 + s ≡ m → civil_nanos (shown_at n s d h l) ≡ pos m *ℤ pos 1_000_000
unfolding shown_at date_of time_of
nanos_shown n s m d h l e = civil_nanos-parts (shown_at n s d h l) ∙ nanos_sum _ n _ s m h.number (nanos_of_millis s) e

text_shown : (n s : ℕ) (d : Day) (h : IsDayOn n d) (l : s < 86_400_000) → stamp_on d s ≡ spelled (shown_at n s d h l)
unfolding shown_at date_of time_of
text_shown n s d h l = let millis : s % 1_000 * 1_000_000 / 1_000_000 ≡ s % 1_000 = omega arith in simp (millis, append_assoc)

pub IsStampOf-stamp_of : (m : ℕ) → m ≤ 253402300799999 → IsStampOf m (stamp_of m)
unfolding stamp_of
IsStampOf-stamp_of m l =
    let h = IsDayOn-day_on (m / 86_400_000) (omega arith) in
    record {
      shown = shown_at (m / 86_400_000) (m % 86_400_000) (day_on (m / 86_400_000)) h (omega arith);
      at_moment = nanos_shown (m / 86_400_000) (m % 86_400_000) m (day_on (m / 86_400_000)) h (omega arith) (omega arith);
      text = text_shown (m / 86_400_000) (m % 86_400_000) (day_on (m / 86_400_000)) h (omega arith);
    }
