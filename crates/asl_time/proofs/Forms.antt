-- A timestamp of the printed form is the text of what calendar and clock show.
use Rattle.std.proofs.Common.{◌≡◌, ◌<◌, ◌+◌, ◌*◌, ◌/◌, ◌%◌, ℕ, List, [], ◌∷◌, ◌++◌, length, ℤ, pos, ◌+ℤ◌, ◌-ℤ◌, ◌*ℤ◌, subst, unsigned_abs, sym, ◌∙◌, ap, arith, append_assoc, length-append, refl}
use Rattle.std.specs.Prelude.{codes}
use Rattle.jiff_core.proofs.DateTimeLemmas.{civil_nanos-civil_seconds}
use Rattle.jiff_core.proofs.SignedLemmas.{signed_arith}
use Rattle.jiff_core.specs.DateTime.{civil_nanos, civil_seconds}
use Rattle.jiff_core.specs.declared.civil.datetime.DateTime.{DateTime}
use Rattle.asl_time.specs.Stamp.{digits, to_the_second, spelled, HasForm, IsStampOf}
use Rattle.asl_time.specs.Timestamp.{secfrac, utc, IsOffset, IsRoundedUp, IsTimestamp}
use Rattle.asl_time.proofs.Spelling.{cut, digits_length}
use Rattle.asl_time.proofs.Back.{digits_digits, thousandths_round, secfrac_digits}
use Rattle.asl_time.proofs.Fractions.{NoDigit, rounded_one, offset_no_digit, fraction_same}
use Rattle.asl_time.proofs.Offsets.{offset_one}
use Rattle.asl_time.proofs.Readings.{civil_seconds_same}

-- ---- the last digits alone count

three_digits : (n : ℕ) → digits 3 n ≡ (48 + n / 10 / 10 % 10) ∷ (48 + n / 10 % 10) ∷ (48 + n % 10) ∷ []
unfolding digits
three_digits n = refl

three_same : (a b c x y z : ℕ) → a ≡ x → b ≡ y → c ≡ z → (48 + a) ∷ (48 + b) ∷ (48 + c) ∷ [] ≡ (48 + x) ∷ (48 + y) ∷ (48 + z) ∷ []
three_same a b c x y z e f g = λ i. (48 + e i) ∷ (48 + f i) ∷ (48 + g i) ∷ []

digits_last : (n : ℕ) → digits 3 n ≡ digits 3 (n % 1000)
digits_last n =
    let hundreds : n / 10 / 10 % 10 ≡ n % 1000 / 10 / 10 % 10 = omega arith in
    let tens : n / 10 % 10 ≡ n % 1000 / 10 % 10 = omega arith in
    let ones : n % 10 ≡ n % 1000 % 10 = omega arith in
    three_digits n ∙ three_same _ _ _ _ _ _ hundreds tens ones ∙ sym (three_digits (n % 1000))

-- ---- what stands before the point, and behind it

abbrev before_point : (t : List ℕ) → HasForm t → List ℕ
before_point t f = digits 4 f.year ++ codes "-" ++ digits 2 f.month ++ codes "-" ++ digits 2 f.day ++ codes "T" ++ digits 2 f.hour ++ codes ":" ++ digits 2 f.minute ++ codes ":" ++ digits 2 f.second

form_opens : (t : List ℕ) (f : HasForm t) → t ≡ before_point t f ++ (46 ∷ (digits 3 f.milli ++ codes "Z"))
form_opens t f = f.text ∙ simp append_assoc

before_length : (t : List ℕ) (f : HasForm t) → length (before_point t f) ≡ 19
before_length t f = simp (length-append, digits_length)

second_length : (shown : DateTime) → length (to_the_second shown) ≡ 19
second_length shown = simp (length-append, digits_length)

no_digit : NoDigit (codes "Z")
no_digit = offset_no_digit (pos 0) (codes "Z") (utc refl refl)

-- what is spelled has the form
pub form_of_stamp : (t : List ℕ) (shown : DateTime) → t ≡ spelled shown → HasForm t
form_of_stamp t shown e = record {
  year = unsigned_abs shown.date.year;
  month = shown.date.month;
  day = shown.date.day;
  hour = shown.time.hour;
  minute = shown.time.minute;
  second = shown.time.second;
  milli = shown.time.subsec_nanosecond / 1_000_000;
  text = e ∙ simp append_assoc;
}

-- ---- a clock that shows other nanoseconds

with_nanos : (shown : DateTime) (n : ℕ) → n < 1_000_000_000 → DateTime
with_nanos shown n l = record {
  date = shown.date;
  time = record {
    hour = shown.time.hour;
    minute = shown.time.minute;
    second = shown.time.second;
    subsec_nanosecond = n;
    hour_in = shown.time.hour_in;
    minute_in = shown.time.minute_in;
    second_in = shown.time.second_in;
    subsec_in = l;
  };
}

nanos_sum : (z c s : ℤ) (m v : ℕ) → z ≡ s *ℤ pos 1_000_000_000 +ℤ pos (v * 1_000_000) → c ≡ s → pos m ≡ (c -ℤ pos 0 *ℤ pos 60) *ℤ pos 1_000 +ℤ pos v → z ≡ pos m *ℤ pos 1_000_000
nanos_sum z c s m v e f g = omega (arith, signed_arith, e, f, g)

module _ (t : List ℕ) (m : ℕ) (f : HasForm t) (h : IsTimestamp t m) where
  abbrev milli : ℕ
  milli = f.milli % 1000

  milli_in : milli < 1000
  milli_in = omega arith

  nanos_in : milli * 1_000_000 < 1_000_000_000
  nanos_in = omega (arith, milli_in)

  opens : t ≡ to_the_second h.shown ++ (secfrac h.fraction ++ h.zone)
  opens = h.text ∙ append_assoc (to_the_second h.shown) (secfrac h.fraction) h.zone

  same_behind : secfrac h.fraction ++ h.zone ≡ 46 ∷ (digits 3 f.milli ++ codes "Z")
  same_behind = cut (to_the_second h.shown) (before_point t f) (secfrac h.fraction ++ h.zone) (46 ∷ (digits 3 f.milli ++ codes "Z")) (second_length h.shown ∙ sym (before_length t f)) (sym opens ∙ form_opens t f)

  same_parts : (h.fraction ≡ digits 3 f.milli) × (h.zone ≡ codes "Z") × (0 < length h.fraction)
  same_parts = fraction_same (secfrac h.fraction ++ h.zone) (digits 3 f.milli ++ codes "Z") (digits 3 f.milli) (codes "Z") h.fraction h.zone h.ahead same_behind refl (digits_digits 3 f.milli) no_digit h.fraction_digits h.zone_offset refl

  same_fraction : h.fraction ≡ digits 3 milli
  same_fraction = same_parts.0 ∙ digits_last f.milli

  same_thousandths : h.thousandths ≡ milli
  same_thousandths =
      let P : List ℕ → Type 0 = λ g. IsRoundedUp g h.thousandths in
      rounded_one (digits 3 milli) h.thousandths milli (subst P same_fraction h.rounded) (thousandths_round milli milli_in)

  same_offset : h.ahead ≡ pos 0
  same_offset =
      let P : List ℕ → Type 0 = λ z. IsOffset h.ahead z in
      offset_one h.ahead (pos 0) (codes "Z") (subst P same_parts.1 h.zone_offset) (utc refl refl)

  same_moment : pos m ≡ (civil_seconds h.shown -ℤ pos 0 *ℤ pos 60) *ℤ pos 1_000 +ℤ pos milli
  same_moment = h.moment ∙ (λ i. (civil_seconds h.shown -ℤ same_offset i *ℤ pos 60) *ℤ pos 1_000 +ℤ pos (same_thousandths i))

  shown : DateTime
  shown = with_nanos h.shown (milli * 1_000_000) nanos_in

  at_moment : civil_nanos shown ≡ pos m *ℤ pos 1_000_000
  unfolding shown with_nanos
  at_moment = nanos_sum _ _ _ m milli (civil_nanos-civil_seconds shown) (civil_seconds_same h.shown shown refl refl) same_moment

  text : t ≡ spelled shown
  unfolding shown with_nanos
  text =
      let millis : milli * 1_000_000 / 1_000_000 ≡ milli = omega arith in
      let point : secfrac h.fraction ≡ codes "." ++ digits 3 milli = ap secfrac same_fraction ∙ secfrac_digits milli in
      h.text ∙ rw (point, same_parts.1, millis) (simp append_assoc)

  pub stamp_of_form : IsStampOf m t
  stamp_of_form = record { shown = shown; at_moment = at_moment; text = text }
