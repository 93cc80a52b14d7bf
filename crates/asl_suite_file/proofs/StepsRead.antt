-- The step that a line spells is the one that the function gives.
use Rattle.std.proofs.Common.{ℕ, zero, suc, ◌≡◌, ◌<◌, ◌≤◌, ◌+◌, ◌-◌, ◌*◌, ◌/◌, ◌%◌, ◌^◌, Bool, true, false, List, [], ◌∷◌, ◌++◌, length, refl, sym, ◌∙◌, ap, arith, append_assoc, Option, Some, None}
use Rattle.std.specs.Prelude.{◌==◌, IfSome, if◌then◌else◌}
use Rattle.std.specs.List.{list_all}
use Rattle.std.specs.Fmt.{decimal}
use Rattle.std.proofs.lemmas.Fmt.{decimal_by_steps, decimal_nonempty}
use Rattle.std.proofs.lemmas.Bool.{and_parts, and_from, lt-ltb, ltb-true, ne_eqb, cond-true, cond-false}
use Rattle.std.proofs.lemmas.Slice.Eq.{bytes_eq-Decides}
use Rattle.asl_history.specs.Places.{IsPlace, steps_text, place_text}
use Rattle.asl_time.specs.Fields.{moment_in}
use Rattle.asl_time.proofs.FieldMoments.{stamp_in, moment_is}
use Rattle.asl_run_input.specs.declared.step_at.StepAt.{StepAt}
use Rattle.asl_run_input.specs.StepsFile.{IsStepLine}
use Rattle.asl_run_input.proofs.StepLines.{AreAbove, AreAbove-place, first_small, others_small}
use Rattle.asl_suite_file.specs.Steps.{before_space, behind_space, numbers_on, numbers_in, place_numbers, is_small, is_line, step_at, step_with, step_in}

-- ---- numbers

-- a digit goes on with a number
digit : (n d : ℕ) (rest : List ℕ) → numbers_on n ((48 + d) ∷ rest) ≡ numbers_on (10 * n + (48 + d - 48)) rest
digit n d rest = cond-false ((48 + d) == 47) (n ∷ numbers_on 0 rest) (numbers_on (10 * n + (48 + d - 48)) rest) (ne_eqb (48 + d) 47 (λ e. absurd (omega arith)))

first_digit : (m : ℕ) → m < 10 → (rest : List ℕ) → numbers_on 0 ((48 + m) ∷ rest) ≡ numbers_on m rest
first_digit m small rest = let same : 10 * 0 + (48 + m - 48) ≡ m = omega arith in digit 0 m rest ∙ ap (λ k. numbers_on k rest) same

next_digit : (m : ℕ) (ds : List ℕ) → 10 ≤ m → ((rest : List ℕ) → numbers_on 0 (ds ++ rest) ≡ numbers_on (m / 10) rest) → (rest : List ℕ) → numbers_on 0 ((ds ++ (48 + m % 10) ∷ []) ++ rest) ≡ numbers_on m rest
next_digit m ds large h rest =
    let same : 10 * (m / 10) + (48 + m % 10 - 48) ≡ m = omega arith in
    ap (λ (x : List ℕ). numbers_on 0 x) (append_assoc ds ((48 + m % 10) ∷ []) rest) ∙ h ((48 + m % 10) ∷ rest) ∙ digit (m / 10) (m % 10) rest ∙ ap (λ k. numbers_on k rest) same

one_number : (n : ℕ) → n < 10 ^ 9 → (rest : List ℕ) → numbers_on 0 (decimal n ++ rest) ≡ numbers_on n rest
one_number n l = decimal_by_steps (λ m ds. (rest : List ℕ) → numbers_on 0 (ds ++ rest) ≡ numbers_on m rest) first_digit next_digit n (omega arith)

all_numbers : (n : ℕ) (p : List ℕ) → IsPlace p → numbers_on n (steps_text p) ≡ n ∷ p
all_numbers n [] h = refl
all_numbers n (m ∷ ms) h =
    let small = first_small m ms h in
    ap (λ (x : List ℕ). n ∷ x) (one_number m small (steps_text ms) ∙ all_numbers m ms (others_small m ms h))

some_numbers : (ds rest : List ℕ) → 0 < length ds → numbers_in (ds ++ rest) ≡ numbers_on 0 (ds ++ rest)
some_numbers [] rest l = absurd (omega arith)
some_numbers (d ∷ ds) rest l = refl

place_back : (p : List ℕ) → IsPlace p → place_numbers (place_text p) ≡ p
place_back [] h = refl
place_back (n ∷ ns) h =
    let small = first_small n ns h in
    some_numbers (decimal n) (steps_text ns) (decimal_nonempty n (omega arith)) ∙ one_number n small (steps_text ns) ∙ all_numbers n ns (others_small n ns h)

lt_small : (n : ℕ) → n < 10 ^ 9 → is_small n ≡ true
lt_small n l = lt-ltb n (10 ^ 9) l

all_small : (p : List ℕ) → IsPlace p → list_all is_small p ≡ true
all_small [] h = refl
all_small (n ∷ ns) h = and_from (is_small n) (list_all is_small ns) (lt_small n (first_small n ns h)) (all_small ns (others_small n ns h))

small_all : (p : List ℕ) → list_all is_small p ≡ true → IsPlace p
small_all [] e k d l = absurd (omega arith)
small_all (n ∷ ns) e zero d l = ltb-true n (10 ^ 9) (and_parts (is_small n) (list_all is_small ns) e).0
small_all (n ∷ ns) e (suc k) d l = small_all ns (and_parts (is_small n) (list_all is_small ns) e).1 k d (omega arith)

-- ---- the space

not_space : (c : ℕ) → 32 < c → (c == 32) ≡ false
not_space c l = ne_eqb c 32 (λ e. absurd (omega arith))

cut_before : (xs ys : List ℕ) → AreAbove xs → before_space (xs ++ 32 ∷ ys) ≡ xs
unfolding AreAbove
cut_before [] ys h = refl
cut_before (x ∷ xs) ys h = let other = not_space x h.0 in rw other (ap (λ (zs : List ℕ). x ∷ zs) (cut_before xs ys h.1))

cut_behind : (xs ys : List ℕ) → AreAbove xs → behind_space (xs ++ 32 ∷ ys) ≡ ys
unfolding AreAbove
cut_behind [] ys h = refl
cut_behind (x ∷ xs) ys h = let other = not_space x h.0 in rw other (cut_behind xs ys h.1)

-- ---- the line

-- what a line spells is what the function gives
pub spelled_in : (t : List ℕ) (s : StepAt) → IsStepLine t s → step_in t ≡ Some s
unfolding step_in
spelled_in t s h =
    let above = AreAbove-place s.place h.place_in in
    let before : before_space t ≡ place_text s.place = ap before_space h.text ∙ cut_before (place_text s.place) h.stamp above in
    let behind : behind_space t ≡ h.stamp = ap behind_space h.text ∙ cut_behind (place_text s.place) h.stamp above in
    let place : place_numbers (before_space t) ≡ s.place = ap place_numbers before ∙ place_back s.place h.place_in in
    let line : is_line t s.place h.stamp ≡ true = and_from (list_all is_small s.place) _ (all_small s.place h.place_in) ((bytes_eq-Decides t (place_text s.place ++ 32 ∷ h.stamp)).1 h.text) in
    (λ i. step_with t (place i) (behind i))
    ∙ cond-true (is_line t s.place h.stamp) (step_at s.place (moment_in h.stamp)) None line
    ∙ ap (step_at s.place) (moment_is h.stamp s.moment h.stamp_is)

placed : (t p stamp : List ℕ) (m : ℕ) (s : StepAt) → is_line t p stamp ≡ true → moment_in stamp ≡ Some m → Some (let made : StepAt = record { place = p; moment = m } in made) ≡ Some s → IsStepLine t s
placed t p stamp m s line e same =
    let parts = and_parts (list_all is_small p) _ line in
    let place_is : p ≡ s.place = cc in
    let moment_same : m ≡ s.moment = cc in
    record {
      place_in = rw (← place_is) (small_all p parts.0);
      stamp = stamp;
      stamp_is = stamp_in stamp s.moment (e ∙ ap Some moment_same);
      text = (bytes_eq-Decides t (place_text p ++ 32 ∷ stamp)).0 parts.1 ∙ ap (λ (q : List ℕ). place_text q ++ 32 ∷ stamp) place_is;
    }

by_moment : (t p stamp : List ℕ) (o : Option ℕ) (s : StepAt) → is_line t p stamp ≡ true → moment_in stamp ≡ o → step_at p o ≡ Some s → IsStepLine t s
by_moment t p stamp None s line e same = cc
by_moment t p stamp (Some m) s line e same = placed t p stamp m s line e same

by_line : (t p stamp : List ℕ) (b : Bool) (s : StepAt) → is_line t p stamp ≡ b → (if b then step_at p (moment_in stamp) else None) ≡ Some s → IsStepLine t s
by_line t p stamp false s e same = cc
by_line t p stamp true s e same = by_moment t p stamp (moment_in stamp) s e refl same

pub in_spelled : (t : List ℕ) (s : StepAt) → step_in t ≡ Some s → IsStepLine t s
unfolding step_in
in_spelled t s e = by_line t (place_numbers (before_space t)) (behind_space t) _ s refl e

-- ---- what is read

read_as : (r o : Option StepAt) (t : List ℕ) → step_in t ≡ o → IfSome r (IsStepLine t) → ((s : StepAt) → IsStepLine t s → r ≡ Some s) → r ≡ step_in t
read_as r (Some s) t e found only = only s (in_spelled t s e) ∙ sym e
read_as None None t e found only = sym e
read_as (Some s) None t e found only = let other = sym e ∙ spelled_in t s found in cc

-- an answer that is the step of a line, and none only where there is none
pub read_is : (r : Option StepAt) (t : List ℕ) → IfSome r (IsStepLine t) → ((s : StepAt) → IsStepLine t s → r ≡ Some s) → r ≡ step_in t
read_is r t = read_as r (step_in t) t refl
