-- The parts of a timestamp, one behind the other.
use Rattle.std.proofs.Common.{◌≡◌, ◌≤◌, ℕ, List, ◌++◌, ℤ, pos, ◌+ℤ◌, ◌-ℤ◌, ◌*ℤ◌, unsigned_abs, sym, ◌∙◌, ap, arith, append_assoc, refl}
use Rattle.std.specs.Prelude.{codes}
use Rattle.jiff_core.proofs.DateLemmas.{epoch_day_same}
use Rattle.jiff_core.specs.Date.{epoch_day}
use Rattle.jiff_core.specs.Time.{time_seconds}
use Rattle.jiff_core.specs.DateTime.{civil_seconds}
use Rattle.jiff_core.specs.declared.civil.date.Date.{Date}
use Rattle.jiff_core.specs.declared.civil.time.Time.{Time}
use Rattle.jiff_core.specs.declared.civil.datetime.DateTime.{DateTime}
use Rattle.asl_time.specs.Stamp.{full_date, whole_time}
use Rattle.asl_time.specs.Timestamp.{secfrac, IsOffset, IsTimestamp}
use Rattle.asl_time.specs.private.Parts.{BeginsWithDate, BeginsWithTime, BeginsWithFraction}
use Rattle.asl_time.proofs.Parts.{marked, marked_one, after_year, after_hour, date_opens, time_opens, year_from_abs, year_small, day_small}
use Rattle.asl_time.proofs.Offsets.{offset_one}

-- a text has one date in front, and one rest behind it
date_one : (t x y : List ℕ) (a b : Date) → BeginsWithDate t a x → BeginsWithDate t b y → (epoch_day a ≡ epoch_day b) × (x ≡ y)
date_one t x y a b h k =
    let i = after_year t (marked 45 a.month (marked 45 a.day x)) y (unsigned_abs a.year) b (year_small a) (h.text ∙ date_opens a x) k in
    let a_month = a.month_in in
    let b_month = b.month_in in
    let m = marked_one 45 a.month b.month (marked 45 a.day x) (marked 45 b.day y) (marked 45 a.month (marked 45 a.day x)) (omega arith) (omega arith) refl i.1 in
    let d = marked_one 45 a.day b.day x y (marked 45 a.day x) (day_small a) (day_small b) refl m.1 in
    let year : a.year ≡ b.year = year_from_abs a.year (unsigned_abs a.year) h.after_zero refl ∙ sym (year_from_abs b.year (unsigned_abs a.year) k.after_zero i.0) in
    (epoch_day_same a b year (sym m.0) (sym d.0), d.1)

-- and one time
time_one : (t x y : List ℕ) (a b : Time) → BeginsWithTime t a x → BeginsWithTime t b y → (time_seconds a ≡ time_seconds b) × (x ≡ y)
time_one t x y a b h k =
    let a_hour = a.hour_in in
    let a_minute = a.minute_in in
    let a_second = a.second_in in
    let b_minute = b.minute_in in
    let b_second = b.second_in in
    let o = after_hour t (marked 58 a.minute (marked 58 a.second x)) y a.hour b (omega arith) (h.text ∙ time_opens a x) k in
    let m = marked_one 58 a.minute b.minute (marked 58 a.second x) (marked 58 b.second y) (marked 58 a.minute (marked 58 a.second x)) (omega arith) (omega arith) refl o.1 in
    let s = marked_one 58 a.second b.second x y (marked 58 a.second x) (omega arith) (omega arith) refl m.1 in
    let hour : b.hour ≡ a.hour = o.0 in
    let minute : b.minute ≡ a.minute = m.0 in
    let second : b.second ≡ a.second = s.0 in
    (omega arith, s.1)

pub civil_seconds_same : (a b : DateTime) → epoch_day a.date ≡ epoch_day b.date → time_seconds a.time ≡ time_seconds b.time → civil_seconds a ≡ civil_seconds b
unfolding civil_seconds
civil_seconds_same a b e f = λ i. e i *ℤ pos 86_400 +ℤ pos (f i)

module _ (t : List ℕ) (m : ℕ) (h : IsTimestamp t m) where
  -- what stands behind the time, and behind the date
  abbrev pub behind_time : List ℕ
  behind_time = secfrac h.fraction ++ h.zone

  abbrev pub behind_date : List ℕ
  behind_date = codes "T" ++ whole_time h.shown.time ++ behind_time

  -- each part is there, behind the one before it, wherever that was read to end
  pub dated : BeginsWithDate t h.shown.date behind_date
  dated = record { after_zero = h.after_zero; text = h.text ∙ simp append_assoc }

  pub timed : (x : List ℕ) (date : Date) → BeginsWithDate t date x → BeginsWithTime x h.shown.time behind_time
  timed x date d = record { text = (date_one t x behind_date date h.shown.date d dated).1 }

  pub fractioned : (x y : List ℕ) (date : Date) (time : Time) → BeginsWithDate t date x → BeginsWithTime x time y → BeginsWithFraction y h.thousandths h.zone
  fractioned x y date time d c = record {
    fraction = h.fraction;
    fraction_digits = h.fraction_digits;
    text = (time_one x y behind_time time h.shown.time c (timed x date d)).1;
    rounded = h.rounded;
  }

  -- the moment is that of the parts that were read
  pub read : (x y : List ℕ) (date : Date) (time : Time) (ahead : ℤ) (n : ℕ) → BeginsWithDate t date x → BeginsWithTime x time y → h.thousandths ≡ n → IsOffset ahead h.zone → pos m ≡ (civil_seconds record { date = date; time = time } -ℤ ahead *ℤ pos 60) *ℤ pos 1_000 +ℤ pos n
  read x y date time ahead n d c e o =
      let day = (date_one t x behind_date date h.shown.date d dated).0 in
      let clock = (time_one x y behind_time time h.shown.time c (timed x date d)).0 in
      let local : DateTime = record { date = date; time = time } in
      let seconds : civil_seconds local ≡ civil_seconds h.shown = civil_seconds_same local h.shown day clock in
      let zone : h.ahead ≡ ahead = offset_one h.ahead ahead h.zone h.zone_offset o in
      rw seconds (rw (← zone) (rw (← e) h.moment))

-- parts that were read make a timestamp
pub timestamp : (t x y z : List ℕ) (date : Date) (time : Time) (n m : ℕ) (ahead : ℤ) → BeginsWithDate t date x → BeginsWithTime x time y → BeginsWithFraction y n z → IsOffset ahead z → pos m ≡ (civil_seconds record { date = date; time = time } -ℤ ahead *ℤ pos 60) *ℤ pos 1_000 +ℤ pos n → m ≤ 253_402_300_799_999 → IsTimestamp t m
timestamp t x y z date time n m ahead d c f o e b =
    let text : t ≡ full_date date ++ (codes "T" ++ whole_time time ++ (secfrac f.fraction ++ z)) = d.text ∙ ap (λ r. full_date date ++ r) (c.text ∙ ap (λ r. codes "T" ++ whole_time time ++ r) f.text) in
    record {
      shown = record { date = date; time = time };
      after_zero = d.after_zero;
      fraction = f.fraction;
      fraction_digits = f.fraction_digits;
      ahead = ahead;
      zone = z;
      zone_offset = o;
      text = text ∙ simp append_assoc;
      thousandths = n;
      rounded = f.rounded;
      moment = e;
      in_range = b;
    }
