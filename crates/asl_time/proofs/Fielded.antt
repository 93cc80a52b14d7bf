-- The fields of a text that fields spell are those fields.
use Rattle.std.proofs.Common.{◌≡◌, ◌<◌, ◌≤◌, ◌+◌, ◌-◌, ◌^◌, ◌/◌, ◌%◌, ℕ, List, [], ◌∷◌, ◌++◌, length, take, drop, get_or, ℤ, subst, sym, ◌∙◌, ap, arith, append_assoc, length-append, refl}
use Rattle.std.specs.Prelude.{codes}
use Rattle.std.proofs.Math.Seq.{take-append_seam, drop-append_seam, drop-append-add, get_or-append_seam}
use Rattle.std.proofs.lemmas.Bool.Decides.{nat_tests}
use Rattle.std.specs.Str.Parse.{digits_value}
use Rattle.asl_time.specs.Stamp.{digits}
use Rattle.asl_time.specs.Timestamp.{secfrac, IsOffset, utc, plus, minus, IsNumericOffset}
use Rattle.asl_time.specs.Fields.{Fields, number_at, offset_size, offset_place, fields_in, text_of}
use Rattle.asl_time.proofs.Spelling.{digits_length}
use Rattle.asl_time.proofs.Back.{digits_value_digits}

-- ---- numbers

number_here : (count n : ℕ) (pre rest : List ℕ) → n < 10 ^ count → number_at count (length pre) (pre ++ (digits count n ++ rest)) ≡ n
number_here count n pre rest l =
    let P : ℕ → Type 0 = λ k. take k (digits count n ++ rest) ≡ digits count n in
    let front = subst P (digits_length count n) (take-append_seam (digits count n) rest) in
    ap (λ (x : List ℕ). digits_value 10 (take count x)) (drop-append_seam pre (digits count n ++ rest)) ∙ ap (digits_value 10) front ∙ digits_value_digits count n l

-- the number at a place is the one that is spelled there
pub number_is : (count place n : ℕ) (t pre rest : List ℕ) → n < 10 ^ count → length pre ≡ place → t ≡ pre ++ (digits count n ++ rest) → number_at count place t ≡ n
number_is count place n t pre rest l f e =
    let P : List ℕ → Type 0 = λ s. number_at count place s ≡ n in
    let Q : ℕ → Type 0 = λ i. number_at count i (pre ++ (digits count n ++ rest)) ≡ n in
    subst P (sym e) (subst Q f (number_here count n pre rest l))

-- ---- the offset

last_is : (xs : List ℕ) (c : ℕ) (t : List ℕ) → t ≡ xs ++ (c ∷ []) → get_or t (length t - 1) 0 ≡ c
last_is xs c t e =
    let size : length t ≡ length xs + 1 = ap length e ∙ length-append xs (c ∷ []) in
    let place : length t - 1 ≡ length xs = omega arith in
    ap (λ (k : ℕ). get_or t k 0) place ∙ ap (λ (s : List ℕ). get_or s (length xs) 0) e ∙ get_or-append_seam xs c [] 0

-- its last byte says how long an offset is
record EndsOffset (z : List ℕ) : Type 0 where
  front : List ℕ
  last : ℕ
  text : z ≡ front ++ (last ∷ [])
  size : offset_size last ≡ length z

six : (c : ℕ) → c ≤ 57 → offset_size c ≡ 6
six c l = grind (arith, nat_tests)

two_digits : (n : ℕ) → digits 2 n ≡ (48 + n / 10 % 10) ∷ (48 + n % 10) ∷ []
unfolding digits
two_digits n = refl

numeric_size : (sign hour minute : ℕ) (t : List ℕ) → t ≡ (sign ∷ []) ++ digits 2 hour ++ codes ":" ++ digits 2 minute → length t ≡ 6
numeric_size sign hour minute t e = ap length e ∙ simp (length-append, digits_length)

numeric_ends : (sign minutes : ℕ) (t : List ℕ) → IsNumericOffset (sign ∷ []) minutes t → EndsOffset t
numeric_ends sign minutes t s =
    let last = 48 + s.minute % 10 in
    let hours = (sign ∷ []) ++ digits 2 s.hour ++ codes ":" in
    let tens = (48 + s.minute / 10 % 10) ∷ [] in
    let text : t ≡ (hours ++ tens) ++ (last ∷ []) = s.text ∙ ap (λ (d : List ℕ). hours ++ d) (two_digits s.minute) ∙ sym (append_assoc hours tens (last ∷ [])) in
    record { front = hours ++ tens; last = last; text = text; size = six last (omega arith) ∙ sym (numeric_size sign s.hour s.minute t s.text) }

offset_ends : (ahead : ℤ) (z : List ℕ) → IsOffset ahead z → EndsOffset z
offset_ends ahead z (utc e a) = record { front = []; last = 90; text = e; size = sym (ap length e) }
offset_ends ahead z (plus n s a) = numeric_ends 43 n z s
offset_ends ahead z (minus n s a) = numeric_ends 45 n z s

-- an offset stands behind what is not part of it
place_is : (front z : List ℕ) (ahead : ℤ) → IsOffset ahead z → offset_place (front ++ z) ≡ length front
place_is front z ahead o =
    let ends = offset_ends ahead z o in
    let whole : front ++ z ≡ (front ++ ends.front) ++ (ends.last ∷ []) = ap (λ (s : List ℕ). front ++ s) ends.text ∙ sym (append_assoc front ends.front (ends.last ∷ [])) in
    let last = last_is (front ++ ends.front) ends.last (front ++ z) whole in
    let size : offset_size (get_or (front ++ z) (length (front ++ z) - 1) 0) ≡ length z = ap offset_size last ∙ ends.size in
    let all = length-append front z in
    omega (arith, size, all)

offset_is : (front z : List ℕ) (ahead : ℤ) → IsOffset ahead z → drop (offset_place (front ++ z)) (front ++ z) ≡ z
offset_is front z ahead o = ap (λ (k : ℕ). drop k (front ++ z)) (place_is front z ahead o) ∙ drop-append_seam front z

before_offset : (front z : List ℕ) (ahead : ℤ) → IsOffset ahead z → take (offset_place (front ++ z)) (front ++ z) ≡ front
before_offset front z ahead o = ap (λ (k : ℕ). take k (front ++ z)) (place_is front z ahead o) ∙ take-append_seam front z

-- ---- the fraction

without_point : (fraction : List ℕ) → drop 1 (secfrac fraction) ≡ fraction
without_point [] = refl
without_point (c ∷ cs) = refl

fraction_behind : (front fraction : List ℕ) → length front ≡ 19 → drop 20 (front ++ secfrac fraction) ≡ fraction
fraction_behind front fraction l =
    let place : length front + 1 ≡ 20 = omega arith in
    ap (λ (k : ℕ). drop k (front ++ secfrac fraction)) (sym place) ∙ drop-append-add front (secfrac fraction) 1 ∙ without_point fraction

-- ---- all fields

-- numbers that fit their places
pub record FitPlaces (f : Fields) : Type 0 where
  pub year_in : f.year < 10_000
  pub month_in : f.month < 100
  pub day_in : f.day < 100
  pub hour_in : f.hour < 100
  pub minute_in : f.minute < 100
  pub second_in : f.second < 100

module _ (f : Fields) (fit : FitPlaces f) (ahead : ℤ) (o : IsOffset ahead f.offset) where
  abbrev seconds : List ℕ
  seconds = digits 4 f.year ++ codes "-" ++ digits 2 f.month ++ codes "-" ++ digits 2 f.day ++ codes "T" ++ digits 2 f.hour ++ codes ":" ++ digits 2 f.minute ++ codes ":" ++ digits 2 f.second

  seconds_length : length seconds ≡ 19
  seconds_length = simp (length-append, digits_length)

  abbrev front : List ℕ
  front = seconds ++ secfrac f.fraction

  opens : text_of f ≡ front ++ f.offset
  unfolding text_of
  opens = simp append_assoc

  abbrev behind_month : List ℕ
  behind_month = codes "-" ++ digits 2 f.day ++ codes "T" ++ digits 2 f.hour ++ codes ":" ++ digits 2 f.minute ++ codes ":" ++ digits 2 f.second ++ secfrac f.fraction ++ f.offset

  year_is : number_at 4 0 (text_of f) ≡ f.year
  unfolding text_of
  year_is = number_is 4 0 f.year (text_of f) [] (codes "-" ++ digits 2 f.month ++ behind_month) fit.year_in refl (simp append_assoc)

  month_is : number_at 2 5 (text_of f) ≡ f.month
  unfolding text_of
  month_is = number_is 2 5 f.month (text_of f) (digits 4 f.year ++ codes "-") behind_month fit.month_in (simp (length-append, digits_length)) (simp append_assoc)

  day_is : number_at 2 8 (text_of f) ≡ f.day
  unfolding text_of
  day_is = number_is 2 8 f.day (text_of f) (digits 4 f.year ++ codes "-" ++ digits 2 f.month ++ codes "-") (codes "T" ++ digits 2 f.hour ++ codes ":" ++ digits 2 f.minute ++ codes ":" ++ digits 2 f.second ++ secfrac f.fraction ++ f.offset) fit.day_in (simp (length-append, digits_length)) (simp append_assoc)

  hour_is : number_at 2 11 (text_of f) ≡ f.hour
  unfolding text_of
  hour_is = number_is 2 11 f.hour (text_of f) (digits 4 f.year ++ codes "-" ++ digits 2 f.month ++ codes "-" ++ digits 2 f.day ++ codes "T") (codes ":" ++ digits 2 f.minute ++ codes ":" ++ digits 2 f.second ++ secfrac f.fraction ++ f.offset) fit.hour_in (simp (length-append, digits_length)) (simp append_assoc)

  minute_is : number_at 2 14 (text_of f) ≡ f.minute
  unfolding text_of
  minute_is = number_is 2 14 f.minute (text_of f) (digits 4 f.year ++ codes "-" ++ digits 2 f.month ++ codes "-" ++ digits 2 f.day ++ codes "T" ++ digits 2 f.hour ++ codes ":") (codes ":" ++ digits 2 f.second ++ secfrac f.fraction ++ f.offset) fit.minute_in (simp (length-append, digits_length)) (simp append_assoc)

  second_is : number_at 2 17 (text_of f) ≡ f.second
  unfolding text_of
  second_is = number_is 2 17 f.second (text_of f) (digits 4 f.year ++ codes "-" ++ digits 2 f.month ++ codes "-" ++ digits 2 f.day ++ codes "T" ++ digits 2 f.hour ++ codes ":" ++ digits 2 f.minute ++ codes ":") (secfrac f.fraction ++ f.offset) fit.second_in (simp (length-append, digits_length)) (simp append_assoc)

  offset_there : drop (offset_place (text_of f)) (text_of f) ≡ f.offset
  offset_there =
      let P : List ℕ → Type 0 = λ s. drop (offset_place s) s ≡ f.offset in
      subst P (sym opens) (offset_is front f.offset ahead o)

  fraction_there : drop 20 (take (offset_place (text_of f)) (text_of f)) ≡ f.fraction
  fraction_there =
      let P : List ℕ → Type 0 = λ s. drop 20 (take (offset_place s) s) ≡ f.fraction in
      subst P (sym opens) (ap (λ (s : List ℕ). drop 20 s) (before_offset front f.offset ahead o) ∙ fraction_behind seconds f.fraction seconds_length)

  pub fields_back : fields_in (text_of f) ≡ f
  unfolding fields_in
  fields_back = λ i. record {
    year = year_is i;
    month = month_is i;
    day = day_is i;
    hour = hour_is i;
    minute = minute_is i;
    second = second_is i;
    fraction = fraction_there i;
    offset = offset_there i;
  }
