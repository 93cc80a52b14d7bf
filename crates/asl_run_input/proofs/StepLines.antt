-- The texts of step lines are ASCII, and are cut at the first space.
use Rattle.std.proofs.Common.{ℕ, zero, suc, ◌≡◌, ◌<◌, ◌/◌, ◌%◌, ◌+◌, ◌^◌, List, [], ◌∷◌, ◌++◌, length, get_or, Option, Some, None, Bor, unsigned_abs, ℤ, refl, ◌∙◌, arith, append_assoc}
use Rattle.std.specs.Prelude.{⊤, MatchOption}
use Rattle.std.specs.Str.{IsAscii, IsUtf8}
use Rattle.std.specs.Str.Parse.{AllDigits}
use Rattle.std.specs.Fmt.{decimal}
use Rattle.std.proofs.lemmas.Str.{IsAscii-append, IsUtf8-from_ascii}
use Rattle.std.proofs.lemmas.Str.Ascii.{IsAscii-nil, IsAscii-cons}
use Rattle.std.proofs.lemmas.Str.Pattern.{IsSplitOnceResult, split_after}
use Rattle.std.proofs.lemmas.Fmt.{IsAscii-decimal, IsAscii-from_digits}
use Rattle.asl_time.specs.Stamp.{digits, full_date, whole_time, to_the_second}
use Rattle.asl_time.specs.Timestamp.{secfrac, IsNumericOffset, IsOffset, utc, plus, minus, IsTimestamp}
use Rattle.asl_history.specs.Places.{IsPlace, steps_text, place_text}
use Rattle.asl_history.proofs.Numerals.{AreDigits, AreDigits-decimal}
use Rattle.asl_run_input.specs.declared.step_at.StepAt.{StepAt}
use Rattle.asl_run_input.specs.StepsFile.{IsStepLine}

-- ---- timestamps are ASCII

digits_ascii : (k n : ℕ) → IsAscii (digits k n)
unfolding digits
digits_ascii zero n = IsAscii-nil
digits_ascii (suc k) n = IsAscii-append (digits k (n / 10)) ((48 + n % 10) ∷ []) (digits_ascii k (n / 10)) (IsAscii-cons (48 + n % 10) [] (omega arith) IsAscii-nil)

digits_before : (k n c : ℕ) (rest : List ℕ) → c < 128 → IsAscii rest → IsAscii (digits k n ++ c ∷ rest)
digits_before k n c rest l h = IsAscii-append (digits k n) (c ∷ rest) (digits_ascii k n) (IsAscii-cons c rest l h)

second_ascii : (t : List ℕ) (m : ℕ) (h : IsTimestamp t m) → IsAscii (to_the_second h.shown)
second_ascii t m h =
    let time : IsAscii (whole_time h.shown.time) = simp append_assoc (digits_before 2 h.shown.time.hour 58 _ (omega arith) (digits_before 2 h.shown.time.minute 58 _ (omega arith) (digits_ascii 2 h.shown.time.second))) in
    let day : IsAscii (full_date h.shown.date) = simp append_assoc (digits_before 4 (unsigned_abs h.shown.date.year) 45 _ (omega arith) (digits_before 2 h.shown.date.month 45 _ (omega arith) (digits_ascii 2 h.shown.date.day))) in
    IsAscii-append _ (whole_time h.shown.time) (IsAscii-append (full_date h.shown.date) (84 ∷ []) day (IsAscii-cons 84 [] (omega arith) IsAscii-nil)) time

secfrac_ascii : (ds : List ℕ) → AllDigits 10 ds → IsAscii (secfrac ds)
secfrac_ascii [] h = IsAscii-nil
secfrac_ascii (c ∷ cs) h = IsAscii-cons 46 (c ∷ cs) (omega arith) (IsAscii-from_digits (c ∷ cs) h)

numeric_ascii : (sign minutes : ℕ) (t : List ℕ) → sign < 128 → IsNumericOffset (sign ∷ []) minutes t → IsAscii t
numeric_ascii sign minutes t l h =
    let front = IsAscii-append (sign ∷ digits 2 h.hour) (58 ∷ []) (IsAscii-cons sign (digits 2 h.hour) l (digits_ascii 2 h.hour)) (IsAscii-cons 58 [] (omega arith) IsAscii-nil) in
    rw h.text (IsAscii-append ((sign ∷ digits 2 h.hour) ++ 58 ∷ []) (digits 2 h.minute) front (digits_ascii 2 h.minute))

offset_ascii : (ahead : ℤ) (t : List ℕ) → IsOffset ahead t → IsAscii t
offset_ascii ahead t (utc e z) = rw e (IsAscii-cons 90 [] (omega arith) IsAscii-nil)
offset_ascii ahead t (plus minutes h z) = numeric_ascii 43 minutes t (omega arith) h
offset_ascii ahead t (minus minutes h z) = numeric_ascii 45 minutes t (omega arith) h

pub stamp_ascii : (t : List ℕ) (m : ℕ) → IsTimestamp t m → IsAscii t
stamp_ascii t m h =
    let front = IsAscii-append (to_the_second h.shown) (secfrac h.fraction) (second_ascii t m h) (secfrac_ascii h.fraction h.fraction_digits) in
    rw h.text (IsAscii-append _ h.zone front (offset_ascii h.ahead h.zone h.zone_offset))

-- ---- places are ASCII without spaces

pub first_small : (n : ℕ) (ns : List ℕ) → IsPlace (n ∷ ns) → n < 10 ^ 9
first_small n ns h = h 0 0 (omega arith)

pub others_small : (n : ℕ) (ns : List ℕ) → IsPlace (n ∷ ns) → IsPlace ns
others_small n ns h = λ k d l. h (suc k) d (omega arith)

steps_ascii : (p : List ℕ) → IsPlace p → IsAscii (steps_text p)
steps_ascii [] h = IsAscii-nil
steps_ascii (n ∷ ns) h =
    let small = first_small n ns h in
    IsAscii-cons 47 _ (omega arith) (IsAscii-append (decimal n) (steps_text ns) (IsAscii-decimal n (omega arith)) (steps_ascii ns (others_small n ns h)))

pub place_ascii : (p : List ℕ) → IsPlace p → IsAscii (place_text p)
place_ascii [] h = IsAscii-cons 47 [] (omega arith) IsAscii-nil
place_ascii (n ∷ ns) h = steps_ascii (n ∷ ns) h

-- each byte is above a space
unfoldable pub AreAbove : List ℕ → Type 0
AreAbove [] = ⊤
AreAbove (c ∷ cs) = (32 < c) × AreAbove cs

AreAbove-digits : (ds rest : List ℕ) → AreDigits ds → AreAbove rest → AreAbove (ds ++ rest)
unfolding AreAbove
AreAbove-digits [] rest h r = r
AreAbove-digits (d ∷ ds) rest h r = (let low = h.0.0 in omega arith, AreAbove-digits ds rest h.1 r)

AreAbove-steps : (p : List ℕ) → IsPlace p → AreAbove (steps_text p)
unfolding AreAbove
AreAbove-steps [] h = tt
AreAbove-steps (n ∷ ns) h =
    let small = first_small n ns h in
    (omega arith, AreAbove-digits (decimal n) (steps_text ns) (AreDigits-decimal n (omega arith)) (AreAbove-steps ns (others_small n ns h)))

pub AreAbove-place : (p : List ℕ) → IsPlace p → AreAbove (place_text p)
unfolding AreAbove
AreAbove-place [] h = (omega arith, tt)
AreAbove-place (n ∷ ns) h = AreAbove-steps (n ∷ ns) h

no_space : (cs : List ℕ) → AreAbove cs → (i : ℕ) → i < length cs → get_or cs i 0 ≡ 32 → ⊥
unfolding AreAbove
no_space [] h i l e = absurd (omega arith)
no_space (c ∷ cs) h zero l e = let above = h.0 in absurd (omega arith)
no_space (c ∷ cs) h (suc i) l e = no_space cs h.1 i (omega arith) e

-- ---- what a step line tells

pub line_utf8 : (line : List ℕ) (s : StepAt) → IsStepLine line s → IsUtf8 line
line_utf8 line s h =
    rw h.text (IsUtf8-from_ascii _ (IsAscii-append (place_text s.place) (32 ∷ h.stamp) (place_ascii s.place h.place_in) (IsAscii-cons 32 h.stamp (omega arith) (stamp_ascii h.stamp s.moment h.stamp_is))))

-- the first space stands between the place and the timestamp
pub line_cut : (line text : List ℕ) (s : StepAt) (r : Option (Bor (List ℕ) × Bor (List ℕ))) → text ≡ line → IsSplitOnceResult 32 text r → (h : IsStepLine line s)
    → MatchOption r ⊥ (λ x. (x.0.now ≡ place_text s.place) × (x.1.now ≡ h.stamp))
line_cut line text s r e split h =
    split_after 32 text (place_text s.place) h.stamp r split (omega arith) (e ∙ h.text) (no_space (place_text s.place) (AreAbove-place s.place h.place_in))

-- no place, or no moment
pub apart : {A : Type 0} (o : Option A) (x : A) → o ≡ None → o ≡ Some x → ⊥
apart o x e f = cc

pub same_step : (s : StepAt) (place : List ℕ) (moment : ℕ) (o : Option (List ℕ)) → o ≡ Some place → o ≡ Some s.place → Some moment ≡ Some s.moment
    → Some (let made : StepAt = record { place = place; moment = moment } in made) ≡ Some s
same_step s place moment o e f g =
    let place_is : place ≡ s.place = cc in
    let moment_is : moment ≡ s.moment = cc in
    rw (place_is, moment_is) refl
