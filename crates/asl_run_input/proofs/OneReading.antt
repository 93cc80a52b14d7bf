-- A line spells at most one step, and so a file at most one list of steps.
use Rattle.std.proofs.Common.{ℕ, ◌≡◌, inl, inr, List, [], ◌∷◌, ◌++◌, ℤ, pos, refl, sym, ◌∙◌, ap, arith}
use Rattle.std.specs.Char.{digit_value}
use Rattle.std.specs.Str.Parse.{AllDigits}
use Rattle.std.specs.Fmt.{decimal}
use Rattle.asl_time.specs.Timestamp.{secfrac, IsRoundedUp, IsOffset, IsTimestamp}
use Rattle.asl_time.proofs.Offsets.{offset_opens}
use Rattle.asl_time.proofs.Fractions.{NoDigit, fraction_one}
use Rattle.asl_time.proofs.Readings.{behind_time, behind_date, dated, timed, fractioned, read}
use Rattle.asl_history.specs.Places.{IsPlace, EndsNumber, steps_text, place_text}
use Rattle.asl_history.proofs.Numerals.{ends_here}
use Rattle.asl_history.proofs.Steps.{root_only}
use Rattle.asl_run_input.specs.declared.step_at.StepAt.{StepAt}
use Rattle.asl_run_input.specs.FileLines.{lines_in}
use Rattle.asl_run_input.specs.StepsFile.{IsStepLine, IsStepsFile}
use Rattle.asl_run_input.proofs.LinesRead.{one_list}
use Rattle.asl_run_input.proofs.StepLines.{first_small, others_small, AreAbove, AreAbove-place}

-- ---- a text is a timestamp of one moment

first_is : (a c : ℕ) (x y t : List ℕ) → t ≡ a ∷ x → t ≡ c ∷ y → digit_value c ≡ digit_value a
first_is a c x y t e f = let same : c ≡ a = cc in ap digit_value same

no_digit : (ahead : ℤ) (t : List ℕ) → IsOffset ahead t → NoDigit t
no_digit ahead t o c rest l e =
    let h = offset_opens ahead t o in
    elim h.1 [
      | inl f ↦ let v : digit_value c ≡ 35 = first_is 90 c h.0 rest t f e in omega (arith, v)
      | inr (inl f) ↦ let v : digit_value c ≡ 36 = first_is 43 c h.0 rest t f e in omega (arith, v)
      | inr (inr f) ↦ let v : digit_value c ≡ 36 = first_is 45 c h.0 rest t f e in omega (arith, v)
    ]

one_fraction : (t f g x y : List ℕ) (a b : ℤ) (m n : ℕ) → AllDigits 10 f → AllDigits 10 g → IsRoundedUp f m → IsRoundedUp g n → IsOffset a x → IsOffset b y
    → t ≡ secfrac f ++ x → t ≡ secfrac g ++ y → (n ≡ m) × (y ≡ x)
one_fraction t (c ∷ cs) g x y a b m n df dg r s o p e k =
    fraction_one t ((c ∷ cs) ++ x) (c ∷ cs) x y b m n e refl df (no_digit a x o) r p (record { fraction = g; fraction_digits = dg; text = k; rounded = s })
one_fraction t [] (d ∷ ds) x y a b m n df dg r s o p e k =
    let same = fraction_one t ((d ∷ ds) ++ y) (d ∷ ds) y x a n m k refl dg (no_digit b y p) s o (record { fraction = []; fraction_digits = df; text = e; rounded = r }) in
    (sym same.0, sym same.1)
one_fraction t [] [] x y a b m n df dg r s o p e k =
    let below_m = r.least in
    let below_n = s.least in
    (omega arith, sym k ∙ e)

same_number : (m n : ℕ) → pos m ≡ pos n → m ≡ n
same_number m n e = cc

one_moment : (t : List ℕ) (m n : ℕ) → IsTimestamp t m → IsTimestamp t n → m ≡ n
one_moment t m n h k =
    let day = dated t m h in
    let time = timed t m h (behind_date t m h) h.shown.date day in
    let f = fractioned t m h (behind_date t m h) (behind_time t m h) h.shown.date h.shown.time day time in
    let g = fractioned t n k (behind_date t m h) (behind_time t m h) h.shown.date h.shown.time day time in
    let one = one_fraction (behind_time t m h) f.fraction g.fraction h.zone k.zone h.ahead k.ahead h.thousandths k.thousandths f.fraction_digits g.fraction_digits f.rounded g.rounded h.zone_offset k.zone_offset f.text g.text in
    let moment = read t n k (behind_date t m h) (behind_time t m h) h.shown.date h.shown.time h.ahead h.thousandths day time one.0 (rw one.1 h.zone_offset) in
    same_number m n (h.moment ∙ sym moment)

-- ---- a text spells one place

EndsNumber-steps_text : (p : List ℕ) → EndsNumber (steps_text p)
EndsNumber-steps_text [] = tt
EndsNumber-steps_text (n ∷ ns) = λ low high. absurd (omega arith)

one_steps : (p q : List ℕ) → IsPlace p → IsPlace q → steps_text p ≡ steps_text q → p ≡ q
one_steps [] [] h k e = refl
one_steps [] (m ∷ ms) h k e = cc
one_steps (n ∷ ns) [] h k e = cc
one_steps (n ∷ ns) (m ∷ ms) h k e =
    let numbers : decimal n ++ steps_text ns ≡ decimal m ++ steps_text ms = cc in
    let one = ends_here n m (steps_text ns) (steps_text ms) (first_small n ns h) (first_small m ms k) (EndsNumber-steps_text ns) (EndsNumber-steps_text ms) numbers in
    let first : n ≡ m = one.0 in
    let others : ns ≡ ms = one_steps ns ms (others_small n ns h) (others_small m ms k) one.1 in
    cc

pub one_place : (p q : List ℕ) → IsPlace p → IsPlace q → place_text p ≡ place_text q → p ≡ q
one_place [] q h k e = root_only (47 ∷ []) q refl k e
one_place (n ∷ ns) [] h k e = sym (root_only (47 ∷ []) (n ∷ ns) refl h (sym e))
one_place (n ∷ ns) (m ∷ ms) h k e = one_steps (n ∷ ns) (m ∷ ms) h k e

-- ---- a line spells one step

one_cut : (a b x y : List ℕ) → AreAbove a → AreAbove b → a ++ 32 ∷ x ≡ b ++ 32 ∷ y → (a ≡ b) × (x ≡ y)
unfolding AreAbove
one_cut [] [] x y h k e = (refl, cc)
one_cut [] (d ∷ b) x y h k e = let above = k.0 in let same : d ≡ 32 = cc in absurd (omega arith)
one_cut (c ∷ a) [] x y h k e = let above = h.0 in let same : c ≡ 32 = cc in absurd (omega arith)
one_cut (c ∷ a) (d ∷ b) x y h k e =
    let rest : a ++ 32 ∷ x ≡ b ++ 32 ∷ y = cc in
    let one = one_cut a b x y h.1 k.1 rest in
    let front : a ≡ b = one.0 in
    (cc, one.1)

pub one_step : (line : List ℕ) (s u : StepAt) → IsStepLine line s → IsStepLine line u → s ≡ u
one_step line s u h k =
    let cut = one_cut (place_text s.place) (place_text u.place) h.stamp k.stamp (AreAbove-place s.place h.place_in) (AreAbove-place u.place k.place_in) (sym h.text ∙ k.text) in
    let place = one_place s.place u.place h.place_in k.place_in cut.0 in
    let moment = one_moment k.stamp s.moment u.moment (rw cut.1 at h.stamp_is) k.stamp_is in
    λ i. record { place = place i; moment = moment i }

pub one_reading : (bytes : List ℕ) (ss us : List StepAt) → IsStepsFile bytes ss → IsStepsFile bytes us → ss ≡ us
one_reading bytes ss us h k = one_list IsStepLine one_step (lines_in bytes) ss us h k
