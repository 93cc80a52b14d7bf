-- A text has the moment of its fields just where it is a timestamp.
use Rattle.std.proofs.Common.{◌≡◌, ◌<◌, ◌≤◌, ◌+◌, ◌*◌, ◌^◌, ◌⊎◌, inl, inr, ℕ, Bool, true, false, cond, ◌&&◌, List, [], ◌∷◌, ◌++◌, length, ℤ, pos, negsuc, neg_ℤ, ◌+ℤ◌, ◌-ℤ◌, ◌*ℤ◌, ◌≤ℤ◌, unsigned_abs, Option, Some, None, IfSome, option_and_then, subst, sym, ◌∙◌, ap, arith, append_assoc, length-append, refl}
use Rattle.std.specs.Prelude.{codes, nat_lt, nat_le, bytes_eq}
use Rattle.std.specs.Char.{is_digit, digit_value}
use Rattle.std.specs.List.{list_all}
use Rattle.std.specs.Str.Parse.{AllDigits, digits_value}
use Rattle.std.proofs.lemmas.Bool.{and_parts, and_from, and_right, cond-true, cond-false, ltb-true, leb-true, lt-ltb, le-leb}
use Rattle.std.proofs.lemmas.Grind.{div_ceil_times}
use Rattle.std.proofs.lemmas.List.{append-nil}
use Rattle.std.proofs.lemmas.Option.{none-some, cond_some, option_and_then_some}
use Rattle.std.proofs.lemmas.Slice.Eq.{bytes_eq-Decides}
use Rattle.jiff_core.proofs.SignedLemmas.{signed_arith}
use Rattle.jiff_core.specs.Calendar.{IsCivilDate, days_in_month, days_from_civil}
use Rattle.jiff_core.specs.DateTime.{civil_seconds}
use Rattle.jiff_core.specs.declared.civil.datetime.DateTime.{DateTime}
use Rattle.asl_time.specs.Stamp.{digits, to_the_second}
use Rattle.asl_time.specs.Timestamp.{secfrac, IsOffset, utc, plus, minus, IsNumericOffset, IsRoundedUp, IsTimestamp}
use Rattle.asl_time.specs.Fields.{Fields, number_at, fields_in, text_of, is_day, is_time, are_valid, signed, ahead_by, ahead_of_utc, thousandths_of, millis_of, as_moment, moment_with, moment_in}
use Rattle.asl_time.proofs.Spelling.{digits_length}
use Rattle.asl_time.proofs.Rounding.{power_positive}
use Rattle.asl_time.proofs.Fractions.{rounded_one}
use Rattle.asl_time.proofs.Parts.{year_from_abs, year_small, day_small}
use Rattle.asl_time.proofs.Fielded.{FitPlaces, number_is, fields_back}

-- ---- offsets

eq_self : (s : List ℕ) → bytes_eq s s ≡ true
eq_self s = (bytes_eq-Decides s s).1 refl

time_holds : (hour minute second : ℕ) → hour < 24 → minute < 60 → second < 60 → is_time hour minute second ≡ true
time_holds hour minute second h m s =
    and_from (nat_lt hour 24) (nat_lt minute 60 && nat_lt second 60) (lt-ltb hour 24 h) (and_from (nat_lt minute 60) (nat_lt second 60) (lt-ltb minute 60 m) (lt-ltb second 60 s))

holds_time : (hour minute second : ℕ) → is_time hour minute second ≡ true → (hour < 24) × (minute < 60) × (second < 60)
holds_time hour minute second e =
    let p = and_parts (nat_lt hour 24) (nat_lt minute 60 && nat_lt second 60) e in
    let q = and_parts (nat_lt minute 60) (nat_lt second 60) p.1 in
    (ltb-true hour 24 p.0, ltb-true minute 60 q.0, ltb-true second 60 q.1)

signed_numbers : (sign hour minute : ℕ) (z : List ℕ) → hour < 24 → minute < 60 → z ≡ signed (sign ∷ []) hour minute → (number_at 2 1 z ≡ hour) × (number_at 2 4 z ≡ minute)
signed_numbers sign hour minute z l k e =
    let front = (sign ∷ []) ++ digits 2 hour ++ codes ":" in
    let behind_hour = append_assoc ((sign ∷ []) ++ digits 2 hour) (codes ":") (digits 2 minute) ∙ append_assoc (sign ∷ []) (digits 2 hour) (codes ":" ++ digits 2 minute) in (
      number_is 2 1 hour z (sign ∷ []) (codes ":" ++ digits 2 minute) (omega arith) refl (e ∙ behind_hour),
      number_is 2 4 minute z front [] (omega arith) (simp (length-append, digits_length)) (e ∙ ap (λ (d : List ℕ). front ++ d) (sym (append-nil (digits 2 minute)))),
    )

by_plus : (hour minute : ℕ) → hour < 24 → minute < 60 → ahead_by (signed (codes "+") hour minute) hour minute ≡ Some (pos (hour * 60 + minute))
by_plus hour minute l k =
    cond-true (is_time hour minute 0 && bytes_eq (signed (codes "+") hour minute) (signed (codes "+") hour minute)) _ _ (and_from _ _ (time_holds hour minute 0 l k (omega arith)) (eq_self (signed (codes "+") hour minute)))

by_minus : (hour minute : ℕ) → hour < 24 → minute < 60 → ahead_by (signed (codes "-") hour minute) hour minute ≡ Some (neg_ℤ (pos (hour * 60 + minute)))
by_minus hour minute l k =
    cond-false (is_time hour minute 0 && bytes_eq (signed (codes "-") hour minute) (signed (codes "+") hour minute)) _ _ (and_right (is_time hour minute 0) _ refl)
    ∙ cond-true (is_time hour minute 0 && bytes_eq (signed (codes "-") hour minute) (signed (codes "-") hour minute)) _ _ (and_from _ _ (time_holds hour minute 0 l k (omega arith)) (eq_self (signed (codes "-") hour minute)))

by_numbers : (sign hour minute : ℕ) (z : List ℕ) → hour < 24 → minute < 60 → z ≡ signed (sign ∷ []) hour minute → ahead_of_utc z ≡ ahead_by (signed (sign ∷ []) hour minute) hour minute
unfolding ahead_of_utc
by_numbers sign hour minute z l k e =
    let n = signed_numbers sign hour minute z l k e in
    λ i. ahead_by (e i) (n.0 i) (n.1 i)

-- an offset's minutes
ahead_is : (ahead : ℤ) (z : List ℕ) → IsOffset ahead z → ahead_of_utc z ≡ Some ahead
unfolding ahead_of_utc
ahead_is ahead z (utc e a) = ap ahead_of_utc e ∙ ap Some (sym a)
ahead_is ahead z (plus n s a) =
    by_numbers 43 s.hour s.minute z s.hour_in s.minute_in s.text ∙ by_plus s.hour s.minute s.hour_in s.minute_in ∙ ap (λ (k : ℕ). Some (pos k)) (sym s.sum) ∙ ap Some (sym a)
ahead_is ahead z (minus n s a) =
    by_numbers 45 s.hour s.minute z s.hour_in s.minute_in s.text ∙ by_minus s.hour s.minute s.hour_in s.minute_in ∙ ap (λ (k : ℕ). Some (neg_ℤ (pos k))) (sym s.sum) ∙ ap Some (sym a)

three_ways : (b c d : Bool) (x y w a : ℤ) → cond b (Some x) (cond c (Some y) (cond d (Some w) None)) ≡ Some a → ((b ≡ true) × (x ≡ a)) ⊎ (((c ≡ true) × (y ≡ a)) ⊎ ((d ≡ true) × (w ≡ a)))
three_ways true c d x y w a e = inl (refl, cc)
three_ways false true d x y w a e = inr (inl (refl, cc))
three_ways false false true x y w a e = inr (inr (refl, cc))
three_ways false false false x y w a e = absurd (none-some a e)

numeric_is : (sign : List ℕ) (z : List ℕ) (hour minute : ℕ) → (is_time hour minute 0 && bytes_eq z (signed sign hour minute)) ≡ true → IsNumericOffset sign (hour * 60 + minute) z
numeric_is sign z hour minute e =
    let p = and_parts (is_time hour minute 0) (bytes_eq z (signed sign hour minute)) e in
    let l = holds_time hour minute 0 p.0 in
    record { hour = hour; minute = minute; hour_in = l.0; minute_in = l.1; sum = refl; text = (bytes_eq-Decides z (signed sign hour minute)).0 p.1 }

-- and only an offset has any
is_ahead : (ahead : ℤ) (z : List ℕ) → ahead_of_utc z ≡ Some ahead → IsOffset ahead z
unfolding ahead_of_utc
is_ahead ahead z e =
    let hour = number_at 2 1 z in
    let minute = number_at 2 4 z in
    elim (three_ways (bytes_eq z (codes "Z")) (is_time hour minute 0 && bytes_eq z (signed (codes "+") hour minute)) (is_time hour minute 0 && bytes_eq z (signed (codes "-") hour minute)) (pos 0) (pos (hour * 60 + minute)) (neg_ℤ (pos (hour * 60 + minute))) ahead e) [
      | inl h ↦ utc ((bytes_eq-Decides z (codes "Z")).0 h.0) (sym h.1)
      | inr (inl h) ↦ plus (hour * 60 + minute) (numeric_is (codes "+") z hour minute h.0) (sym h.1)
      | inr (inr h) ↦ minus (hour * 60 + minute) (numeric_is (codes "-") z hour minute h.0) (sym h.1)
    ]

-- ---- fractions

rounds : (ds : List ℕ) → IsRoundedUp ds (thousandths_of ds)
unfolding thousandths_of
rounds ds =
    let h = div_ceil_times (1000 * digits_value 10 ds) (10 ^ length ds) (power_positive (length ds)) in
    record { enough = h.0; least = h.1 }

digits_hold : (ds : List ℕ) → AllDigits 10 ds → list_all (λ c. is_digit c 10) ds ≡ true
digits_hold [] h = refl
digits_hold (c ∷ cs) h = and_from (is_digit c 10) (list_all (λ d. is_digit d 10) cs) (lt-ltb (digit_value c) 10 h.0) (digits_hold cs h.1)

hold_digits : (ds : List ℕ) → list_all (λ c. is_digit c 10) ds ≡ true → AllDigits 10 ds
hold_digits [] e = tt
hold_digits (c ∷ cs) e =
    let h = and_parts (is_digit c 10) (list_all (λ d. is_digit d 10) cs) e in
    (ltb-true (digit_value c) 10 h.0, hold_digits cs h.1)

-- ---- moments

moment_of : (m : ℕ) → m ≤ 253_402_300_799_999 → as_moment (pos m) ≡ Some m
moment_of m l = cond-true (nat_le m 253_402_300_799_999) (Some m) None (le-leb m 253_402_300_799_999 l)

of_moment : (z : ℤ) (m : ℕ) → as_moment z ≡ Some m → (z ≡ pos m) × (m ≤ 253_402_300_799_999)
of_moment (pos n) m e =
    let h = cond_some (nat_le n 253_402_300_799_999) n m e in
    let within = leb-true n 253_402_300_799_999 h.0 in
    let same : n ≡ m = h.1 in
    (ap pos same, omega arith)
of_moment (negsuc n) m e = absurd (none-some m e)

-- ---- fields

record IsValid (f : Fields) : Type 0 where
  civil : IsCivilDate (pos f.year) f.month f.day
  hour_in : f.hour < 24
  minute_in : f.minute < 60
  second_in : f.second < 60
  fraction_digits : AllDigits 10 f.fraction

day_holds : (y m d : ℕ) → IsCivilDate (pos y) m d → is_day y m d ≡ true
day_holds y m d h =
    let last = h.0.1 in
    let year : y < 10_000 = omega (arith, signed_arith) in
    and_from (nat_lt y 10_000) _ (lt-ltb y 10_000 year)
    (and_from (nat_le 1 m) _ (le-leb 1 m h.1.0)
    (and_from (nat_le m 12) _ (le-leb m 12 h.1.1)
    (and_from (nat_le 1 d) _ (le-leb 1 d h.2.0) (le-leb d (days_in_month (pos y) m) h.2.1))))

holds_day : (y m d : ℕ) → is_day y m d ≡ true → IsCivilDate (pos y) m d
holds_day y m d e =
    let a = and_parts (nat_lt y 10_000) _ e in
    let b = and_parts (nat_le 1 m) _ a.1 in
    let c = and_parts (nat_le m 12) _ b.1 in
    let g = and_parts (nat_le 1 d) (nat_le d (days_in_month (pos y) m)) c.1 in
    let year = ltb-true y 10_000 a.0 in
    ((omega (arith, signed_arith), omega (arith, signed_arith)), (leb-true 1 m b.0, leb-true m 12 c.0), (leb-true 1 d g.0, leb-true d (days_in_month (pos y) m) g.1))

valid_holds : (f : Fields) → IsValid f → are_valid f ≡ true
valid_holds f v =
    and_from (is_day f.year f.month f.day) _ (day_holds f.year f.month f.day v.civil)
    (and_from (is_time f.hour f.minute f.second) _ (time_holds f.hour f.minute f.second v.hour_in v.minute_in v.second_in) (digits_hold f.fraction v.fraction_digits))

holds_valid : (f : Fields) → are_valid f ≡ true → IsValid f
holds_valid f e =
    let a = and_parts (is_day f.year f.month f.day) _ e in
    let b = and_parts (is_time f.hour f.minute f.second) (list_all (λ c. is_digit c 10) f.fraction) a.1 in
    let l = holds_time f.hour f.minute f.second b.0 in
    record { civil = holds_day f.year f.month f.day a.0; hour_in = l.0; minute_in = l.1; second_in = l.2; fraction_digits = hold_digits f.fraction b.1 }

-- what calendar and clock show
shown_by : (f : Fields) → IsValid f → DateTime
shown_by f v = record {
  date = record { year = pos f.year; month = f.month; day = f.day; year_in = v.civil.0; month_in = v.civil.1; day_in = v.civil.2 };
  time = record {
    hour = f.hour;
    minute = f.minute;
    second = f.second;
    subsec_nanosecond = 0;
    hour_in = v.hour_in;
    minute_in = v.minute_in;
    second_in = v.second_in;
    subsec_in = omega arith;
  };
}

-- ---- a text with a moment is a timestamp

text_shown : (f : Fields) (v : IsValid f) → text_of f ≡ to_the_second (shown_by f v) ++ secfrac f.fraction ++ f.offset
unfolding text_of shown_by
text_shown f v = simp append_assoc

millis_shown : (f : Fields) (v : IsValid f) (ahead : ℤ) → millis_of f ahead ≡ (civil_seconds (shown_by f v) -ℤ ahead *ℤ pos 60) *ℤ pos 1_000 +ℤ pos (thousandths_of f.fraction)
unfolding millis_of civil_seconds shown_by
millis_shown f v ahead = refl

year_shown : (f : Fields) (v : IsValid f) → pos 0 ≤ℤ (shown_by f v).date.year
unfolding shown_by
year_shown f v = omega (arith, signed_arith)

when : (b : Bool) (o : Option ℕ) (m : ℕ) → cond b o None ≡ Some m → (b ≡ true) × (o ≡ Some m)
when true o m e = (refl, e)
when false o m e = absurd (none-some m e)

stamp_by : (f : Fields) (t : List ℕ) (m : ℕ) (ahead : ℤ) → IsValid f → t ≡ text_of f → ahead_of_utc f.offset ≡ Some ahead → as_moment (millis_of f ahead) ≡ Some m → IsTimestamp t m
stamp_by f t m ahead v e o q =
    let moment = of_moment (millis_of f ahead) m q in
    record {
      shown = shown_by f v;
      after_zero = year_shown f v;
      fraction = f.fraction;
      fraction_digits = v.fraction_digits;
      ahead = ahead;
      zone = f.offset;
      zone_offset = is_ahead ahead f.offset o;
      text = e ∙ text_shown f v;
      thousandths = thousandths_of f.fraction;
      rounded = rounds f.fraction;
      moment = sym moment.0 ∙ millis_shown f v ahead;
      in_range = moment.1;
    }

stamp_with : (f : Fields) (t : List ℕ) (m : ℕ) → moment_with f t ≡ Some m → IsTimestamp t m
stamp_with f t m e =
    let w = when (are_valid f && bytes_eq t (text_of f)) (option_and_then (λ ahead. as_moment (millis_of f ahead)) (ahead_of_utc f.offset)) m e in
    let p = and_parts (are_valid f) (bytes_eq t (text_of f)) w.0 in
    option_and_then_some {P = IsTimestamp t m} (λ ahead. as_moment (millis_of f ahead)) (ahead_of_utc f.offset) m w.1
    (λ ahead o q. stamp_by f t m ahead (holds_valid f p.0) ((bytes_eq-Decides t (text_of f)).0 p.1) o q)

pub stamp_in : (t : List ℕ) (m : ℕ) → moment_in t ≡ Some m → IsTimestamp t m
unfolding moment_in
stamp_in t m e = stamp_with (fields_in t) t m e

-- ---- a timestamp has the moment of its fields

module _ (t : List ℕ) (m : ℕ) (h : IsTimestamp t m) where
  abbrev fields : Fields
  fields = record {
    year = unsigned_abs h.shown.date.year;
    month = h.shown.date.month;
    day = h.shown.date.day;
    hour = h.shown.time.hour;
    minute = h.shown.time.minute;
    second = h.shown.time.second;
    fraction = h.fraction;
    offset = h.zone;
  }

  year : h.shown.date.year ≡ pos (unsigned_abs h.shown.date.year)
  year = year_from_abs h.shown.date.year (unsigned_abs h.shown.date.year) h.after_zero refl

  valid : IsValid fields
  valid =
      let P : ℤ → Type 0 = λ y. IsCivilDate y h.shown.date.month h.shown.date.day in
      record {
        civil = subst P year (h.shown.date.year_in, h.shown.date.month_in, h.shown.date.day_in);
        hour_in = h.shown.time.hour_in;
        minute_in = h.shown.time.minute_in;
        second_in = h.shown.time.second_in;
        fraction_digits = h.fraction_digits;
      }

  fit : FitPlaces fields
  fit =
      let month = h.shown.date.month_in in
      let hour = h.shown.time.hour_in in
      let minute = h.shown.time.minute_in in
      let second = h.shown.time.second_in in
      record {
        year_in = year_small h.shown.date;
        month_in = omega arith;
        day_in = day_small h.shown.date;
        hour_in = omega arith;
        minute_in = omega arith;
        second_in = omega arith;
      }

  text : t ≡ text_of fields
  unfolding text_of
  text = h.text ∙ simp append_assoc

  same_fields : fields_in t ≡ fields
  same_fields = ap fields_in text ∙ fields_back fields fit h.ahead h.zone_offset

  same_thousandths : thousandths_of h.fraction ≡ h.thousandths
  same_thousandths = rounded_one h.fraction (thousandths_of h.fraction) h.thousandths (rounds h.fraction) h.rounded

  same_millis : millis_of fields h.ahead ≡ pos m
  unfolding millis_of civil_seconds
  same_millis =
      (λ i. (days_from_civil (sym year i) h.shown.date.month h.shown.date.day *ℤ pos 86_400 +ℤ pos (h.shown.time.hour * 3600 + h.shown.time.minute * 60 + h.shown.time.second) -ℤ h.ahead *ℤ pos 60) *ℤ pos 1_000 +ℤ pos (same_thousandths i))
      ∙ sym h.moment

  with_fields : moment_with fields t ≡ Some m
  with_fields =
      cond-true (are_valid fields && bytes_eq t (text_of fields)) _ _ (and_from (are_valid fields) _ (valid_holds fields valid) ((bytes_eq-Decides t (text_of fields)).1 text))
      ∙ ap (λ (o : Option ℤ). option_and_then (λ ahead. as_moment (millis_of fields ahead)) o) (ahead_is h.ahead h.zone h.zone_offset)
      ∙ ap as_moment same_millis ∙ moment_of m h.in_range

  pub moment_is : moment_in t ≡ Some m
  unfolding moment_in
  moment_is = ap (λ (f : Fields). moment_with f t) same_fields ∙ with_fields

-- ---- what is read

read_as : (r o : Option ℕ) (t : List ℕ) → moment_in t ≡ o → IfSome r (IsTimestamp t) → ((m : ℕ) → IsTimestamp t m → r ≡ Some m) → r ≡ moment_in t
read_as r (Some m) t e found only = only m (stamp_in t m e) ∙ sym e
read_as None None t e found only = sym e
read_as (Some m) None t e found only = absurd (none-some m (sym e ∙ moment_is t m found))

-- an answer that is the moment of a timestamp, and none only where there is none
pub read_is : (r : Option ℕ) (t : List ℕ) → IfSome r (IsTimestamp t) → ((m : ℕ) → IsTimestamp t m → r ≡ Some m) → r ≡ moment_in t
read_is r t = read_as r (moment_in t) t refl
