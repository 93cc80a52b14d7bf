-- Where numbers end, and what the machine makes of them.
use Rattle.std.proofs.Common.{◌≡◌, ℕ, zero, suc, ◌+◌, ◌≤◌, ◌<◌, Bool, true, false, cond, List, [], ◌∷◌, ◌++◌, length, get_or, None, refl, sym, ap, subst, ◌∙◌, arith, take, drop}
use Rattle.std.proofs.lemmas.List.{length-append, take-append-drop}
use Rattle.asl_json_data.specs.Data.{number}
use Rattle.asl_json_data.specs.Number.{IsNumeral, is_over, EndsNumber}
use Rattle.asl_json_scan.specs.private.Machine.{value, figure, after, in_judged, in_figure, failed, walk, judgement, run}
use Rattle.asl_json_data.specs.private.NumberParts.{next_part, may_end}
use Rattle.asl_json_scan.specs.Open.{Frame}
use Rattle.asl_json_scan.specs.private.Leads.{begins, IsNumberFront}
use Rattle.asl_json_scan.specs.declared.fault.Kind.TheVariants.{Syntax, Number}
use Rattle.asl_json_data.specs.declared.part.Part.{Part}
use Rattle.asl_json_data.specs.declared.part.Part.TheVariants.{Start}
use Rattle.asl_json_data.proofs.Numerals.{IsPart, numeral_accepted, numeral_some, part_is_numeral, part_longest, longest_stops}
use Rattle.asl_json_scan.proofs.Passing.{alike, value_begins, parts_pass, part_pass}
use Rattle.asl_json_scan.proofs.Stretches.{halts, halts_here}

-- a number read to its end is judged there
figure_judged : (p : Part) (s : List ℕ) (st : List Frame) (rest : List ℕ) → may_end p ≡ true → IsPart p s → EndsNumber s rest → run true (figure p s) st rest ≡ cond (is_over s) (failed Number (length s + length rest)) (run true (after (number s)) st rest)
unfolding walk in_figure in_judged
figure_judged p s st [] ends h longest = let z : length s + 0 ≡ length s = omega arith in rw (z, ends) refl
figure_judged p s st (c ∷ cs) ends h longest = told (is_over s) refl
  where
    stops : next_part p c ≡ None
    stops = longest_stops p s c cs h longest

    told : (x : Bool) → is_over s ≡ x → run true (figure p s) st (c ∷ cs) ≡ cond x (failed Number (length s + suc (length cs))) (run true (after (number s)) st (c ∷ cs))
    told true e = halts true (figure p s) st c cs Number (length s) (rw (stops, ends, e) refl)
    told false e = alike (judgement true) true (figure p s) (after (number s)) st c cs (rw (stops, ends, e) refl)

number_judged : (s : List ℕ) (st : List Frame) (rest : List ℕ) → IsNumeral s → EndsNumber s rest → run true value st (s ++ rest) ≡ cond (is_over s) (failed Number (length s + length rest)) (run true (after (number s)) st rest)
number_judged s st rest h longest =
    let a = numeral_accepted s h in
    part_pass (judgement true) true a.to s st rest (numeral_some s h) a.leads ∙ figure_judged a.to s st rest a.ends a.leads longest

pub number_over : (s : List ℕ) (st : List Frame) (rest : List ℕ) → IsNumeral s → EndsNumber s rest → is_over s ≡ true → run true value st (s ++ rest) ≡ failed Number (length (s ++ rest))
number_over s st rest h ends over =
    number_judged s st rest h ends ∙ ap (λ (x : Bool). cond x (failed Number (length s + length rest)) (run true (after (number s)) st rest)) over ∙ ap (failed Number) (sym (length-append s rest))

pub number_fits : (s : List ℕ) (st : List Frame) (rest : List ℕ) → IsNumeral s → EndsNumber s rest → is_over s ≡ false → run true value st (s ++ rest) ≡ run true (after (number s)) st rest
number_fits s st rest h ends fits =
    number_judged s st rest h ends ∙ ap (λ (x : Bool). cond x (failed Number (length s + length rest)) (run true (after (number s)) st rest)) fits

-- the number in front of bytes
pub front_over : (bytes : List ℕ) (n : ℕ) (st : List Frame) → IsNumberFront bytes n → is_over (take n bytes) ≡ true → run true value st bytes ≡ failed Number (length bytes)
front_over bytes n st h over =
    let parts = take-append-drop n bytes in
    subst (λ (b : List ℕ). run true value st b ≡ failed Number (length b)) parts (number_over (take n bytes) st (drop n bytes) h.number_is h.longest over)

pub front_fits : (bytes : List ℕ) (n : ℕ) (st : List Frame) → IsNumberFront bytes n → is_over (take n bytes) ≡ false → run true value st bytes ≡ run true (after (number (take n bytes))) st (drop n bytes)
front_fits bytes n st h fits = ap (run true value st) (sym (take-append-drop n bytes)) ∙ number_fits (take n bytes) st (drop n bytes) h.number_is h.longest fits

-- ---- as far as a number goes on

-- a byte with which a part doesn't go on, or the end
abbrev StopsPart : Part → List ℕ → Type 0
StopsPart p [] = Unit {0}
StopsPart p (c ∷ cs) = next_part p c ≡ None

stops_at : (p : Part) (xs : List ℕ) (n : ℕ) → (n < length xs → next_part p (get_or xs n 0) ≡ None) → StopsPart p (drop n xs)
stops_at p [] n h = told n
  where
    told : (n : ℕ) → StopsPart p (drop n [])
    told zero = tt
    told (suc n) = tt
stops_at p (x ∷ xs) zero h = h (omega arith)
stops_at p (x ∷ xs) (suc n) h = stops_at p xs n (λ lt. h (omega arith))

ends_there : (p : Part) (s rest : List ℕ) → IsPart p s → StopsPart p rest → EndsNumber s rest
ends_there p s [] h stops = tt
ends_there p s (c ∷ rest) h stops = part_longest p s c rest h stops

pub front_found : (bytes : List ℕ) (n : ℕ) (p : Part) → n ≤ length bytes → IsPart p (take n bytes) → (n < length bytes → next_part p (get_or bytes n 0) ≡ None) → may_end p ≡ true → IsNumberFront bytes n
front_found bytes n p le h stops ends = record { some = above n h; within = le; number_is = part_is_numeral p (take n bytes) ends h; longest = ends_there p (take n bytes) (drop n bytes) h (stops_at p bytes n stops) }
  where
    above : (n : ℕ) → IsPart p (take n bytes) → 0 < n
    above zero h = absurd (numeral_some [] (part_is_numeral p [] ends h) refl)
    above (suc n) h = omega arith

part_halts : (p : Part) (s : List ℕ) (st : List Frame) (rest : List ℕ) → may_end p ≡ false → StopsPart p rest → run true (figure p s) st rest ≡ failed Syntax (length rest)
unfolding walk in_figure
part_halts p s st [] ends stops = rw ends refl
part_halts p s st (c ∷ cs) ends stops = halts_here true (figure p s) st c cs (rw (stops, ends) refl)

pub front_breaks : (bytes : List ℕ) (n : ℕ) (p : Part) (st : List Frame) → begins bytes ≡ true → IsPart p (take n bytes) → (n < length bytes → next_part p (get_or bytes n 0) ≡ None) → may_end p ≡ false → run true value st bytes ≡ failed Syntax (length (drop n bytes))
front_breaks [] n p st b h stops ends = absurd cc
front_breaks (c ∷ cs) n p st b h stops ends =
    let bytes = c ∷ cs in
    value_begins (judgement true) true st c cs b
    ∙ ap (run true (figure Start []) st) (sym (take-append-drop n bytes))
    ∙ parts_pass (judgement true) true Start p [] (take n bytes) st (drop n bytes) h
    ∙ part_halts p (take n bytes) st (drop n bytes) ends (stops_at p bytes n stops)
