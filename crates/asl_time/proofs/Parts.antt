-- What the parts of a date and of a time leave of a text.
use Rattle.std.proofs.Common.{◌≡◌, ◌<◌, ◌^◌, ℕ, List, ◌∷◌, ◌++◌, ℤ, pos, ◌≤ℤ◌, unsigned_abs, sym, ◌∙◌, arith, append_assoc}
use Rattle.std.specs.Prelude.{codes}
use Rattle.jiff_core.proofs.CalendarLemmas.{days_in_month_bounds}
use Rattle.jiff_core.proofs.SignedLemmas.{signed_arith, one_part}
use Rattle.jiff_core.specs.declared.civil.date.Date.{Date}
use Rattle.jiff_core.specs.declared.civil.time.Time.{Time}
use Rattle.asl_time.specs.Stamp.{digits, full_date, whole_time}
use Rattle.asl_time.specs.private.Parts.{BeginsWithDate, BeginsWithTime}
use Rattle.asl_time.proofs.Spelling.{digits_one}

-- two digits behind a mark, and what follows
abbrev pub marked : ℕ → ℕ → List ℕ → List ℕ
marked mark n rest = mark ∷ digits 2 n ++ rest

pub marked_one : (mark a b : ℕ) (x y t : List ℕ) → a < 100 → b < 100 → t ≡ marked mark a x → t ≡ marked mark b y → (b ≡ a) × (x ≡ y)
marked_one mark a b x y t l m e f =
    let same : digits 2 a ++ x ≡ digits 2 b ++ y = cc in
    let h = digits_one 2 a b x y l m same in
    (sym h.0, h.1)

pub year_small : (date : Date) → unsigned_abs date.year < 10 ^ 4
year_small date = let y = date.year_in in omega (arith, signed_arith, one_part date.year)

pub day_small : (date : Date) → date.day < 100
day_small date = let long = days_in_month_bounds date.year date.month in let d = date.day_in in omega arith

pub date_opens : (date : Date) (rest : List ℕ) → full_date date ++ rest ≡ digits 4 (unsigned_abs date.year) ++ marked 45 date.month (marked 45 date.day rest)
date_opens date rest = simp append_assoc

pub after_year : (t x rest : List ℕ) (year : ℕ) (date : Date) → year < 10 ^ 4 → t ≡ digits 4 year ++ x → BeginsWithDate t date rest → (unsigned_abs date.year ≡ year) × (x ≡ marked 45 date.month (marked 45 date.day rest))
after_year t x rest year date l e h =
    let same : digits 4 year ++ x ≡ digits 4 (unsigned_abs date.year) ++ marked 45 date.month (marked 45 date.day rest) = sym e ∙ h.text ∙ date_opens date rest in
    let one = digits_one 4 year (unsigned_abs date.year) x (marked 45 date.month (marked 45 date.day rest)) l (year_small date) same in
    (sym one.0, one.1)

pub year_from_abs : (year : ℤ) (n : ℕ) → pos 0 ≤ℤ year → unsigned_abs year ≡ n → year ≡ pos n
year_from_abs year n h e = omega (arith, signed_arith, one_part year)

pub time_opens : (time : Time) (rest : List ℕ) → codes "T" ++ whole_time time ++ rest ≡ marked 84 time.hour (marked 58 time.minute (marked 58 time.second rest))
time_opens time rest = simp append_assoc

-- a time has this hour, and the rest of it stands behind
pub after_hour : (t x rest : List ℕ) (hour : ℕ) (time : Time) → hour < 100 → t ≡ marked 84 hour x → BeginsWithTime t time rest → (time.hour ≡ hour) × (x ≡ marked 58 time.minute (marked 58 time.second rest))
after_hour t x rest hour time l e h =
    marked_one 84 hour time.hour x (marked 58 time.minute (marked 58 time.second rest)) t l (omega arith) e (h.text ∙ time_opens time rest)
