-- Reading the numbers of a place one after another.
use Rattle.std.proofs.Common.{ℕ, suc, ◌≡◌, ◌<◌, ◌^◌, List, [], ◌∷◌, ◌++◌, length, length-append, refl, sym, ◌∙◌, ap, append_assoc, append-nil, arith}
use Rattle.std.specs.Prelude.{true, false, ◌==◌}
use Rattle.std.proofs.lemmas.List.{nil_from_length}
use Rattle.std.proofs.lemmas.Bool.{eqb-true}
use Rattle.std.proofs.lemmas.List.Elements.{All-append, All-cons, All-nil}
use Rattle.std.proofs.lemmas.Grind.{flat_map-append}
use Rattle.std.proofs.lemmas.Fmt.{decimal_nonempty}
use Rattle.std.specs.Fmt.{decimal}
use Rattle.asl_history.specs.Places.{IsPlace, EndsNumber, step_text, steps_text, place_text}

-- some numbers of a place were read from a text, and the rest is left
pub record AreRead (text : List ℕ) (numbers : List ℕ) (rest : List ℕ) : Type 0 where
  pub front : text ≡ steps_text numbers ++ rest
  pub small : IsPlace numbers
  -- a place that the whole text spells goes on with what the rest spells
  pub only : (p : List ℕ) → IsPlace p → text ≡ steps_text p → (q : List ℕ) × ((p ≡ numbers ++ q) × (IsPlace q × (rest ≡ steps_text q)))

-- what is known where a number behind a slash is read
abbrev pub IsOnlyStep : List ℕ → ℕ → List ℕ → Type 0
IsOnlyStep text number behind = (n : ℕ) (rest : List ℕ) → n < 10 ^ 9 → EndsNumber rest → text ≡ step_text n ++ rest → (number ≡ n) × (behind ≡ rest)

EndsNumber-steps_text : (p : List ℕ) → EndsNumber (steps_text p)
EndsNumber-steps_text [] = tt
EndsNumber-steps_text (n ∷ ns) = λ low high. absurd (omega arith)

first_small : (n : ℕ) (ns : List ℕ) → IsPlace (n ∷ ns) → n < 10 ^ 9
first_small n ns h = h 0 0 (omega arith)

others_small : (n : ℕ) (ns : List ℕ) → IsPlace (n ∷ ns) → IsPlace ns
others_small n ns h = λ k d l. h (suc k) d (omega arith)

pub begun : (text : List ℕ) → AreRead text [] text
begun text = record { front = refl; small = All-nil _; only = λ p h e. (p, (refl, (h, e))) }

one_small : (n : ℕ) → n < 10 ^ 9 → IsPlace (n ∷ [])
one_small n l = All-cons (λ x. x < 10 ^ 9) n [] l (All-nil _)

goes_on : (text numbers rest behind p : List ℕ) (number : ℕ) → rest ≡ step_text number ++ behind → IsOnlyStep rest number behind
    → (q : List ℕ) × ((p ≡ numbers ++ q) × (IsPlace q × (rest ≡ steps_text q)))
    → (q : List ℕ) × ((p ≡ (numbers ++ number ∷ []) ++ q) × (IsPlace q × (behind ≡ steps_text q)))
goes_on text numbers rest behind p number e only ([], h) = absurd (let f = h.1.1 in cc)
goes_on text numbers rest behind p number e only (m ∷ q, h) =
    let s = only m (steps_text q) (first_small m q h.1.0) (EndsNumber-steps_text q) h.1.1 in
    (q, (h.0 ∙ rw (s.0, append_assoc) refl, (others_small m q h.1.0, s.1)))

steps_text-last : (ns : List ℕ) (n : ℕ) → steps_text (ns ++ n ∷ []) ≡ steps_text ns ++ step_text n
steps_text-last ns n = rw flat_map-append (ap (λ t. steps_text ns ++ t) (append-nil (step_text n)))

pub read_on : (text numbers rest behind : List ℕ) (number : ℕ) → AreRead text numbers rest → rest ≡ step_text number ++ behind → number < 10 ^ 9 → IsOnlyStep rest number behind → AreRead text (numbers ++ number ∷ []) behind
read_on text numbers rest behind number h e l only = record {
  front = h.front ∙ rw (e, steps_text-last numbers number, append_assoc) refl;
  small = All-append (λ x. x < 10 ^ 9) numbers (number ∷ []) h.small (one_small number l);
  only = λ p s f. goes_on text numbers rest behind p number e only (h.only p s f);
}

stuck_at : (numbers rest p : List ℕ) → (rest ≡ [] → ⊥) → ((n : ℕ) (more : List ℕ) → n < 10 ^ 9 → EndsNumber more → rest ≡ step_text n ++ more → ⊥)
    → (q : List ℕ) × ((p ≡ numbers ++ q) × (IsPlace q × (rest ≡ steps_text q))) → ⊥
stuck_at numbers rest p some none ([], h) = some h.1.1
stuck_at numbers rest p some none (m ∷ q, h) = none m (steps_text q) (first_small m q h.1.0) (EndsNumber-steps_text q) h.1.1

-- where no number behind a slash stands first, the text spells no place
pub stuck : (text numbers rest : List ℕ) → AreRead text numbers rest → (rest ≡ [] → ⊥) → ((n : ℕ) (more : List ℕ) → n < 10 ^ 9 → EndsNumber more → rest ≡ step_text n ++ more → ⊥)
    → (p : List ℕ) → IsPlace p → text ≡ steps_text p → ⊥
stuck text numbers rest h some none p s e = stuck_at numbers rest p some none (h.only p s e)

ended_at : (numbers p : List ℕ) → (q : List ℕ) × ((p ≡ numbers ++ q) × (IsPlace q × ([] ≡ steps_text q))) → numbers ≡ p
ended_at numbers p ([], h) = sym (h.0 ∙ append-nil numbers)
ended_at numbers p (m ∷ q, h) = absurd (let f = h.1.1 in cc)

pub ended : (text numbers rest : List ℕ) → AreRead text numbers rest → rest ≡ [] → (p : List ℕ) → IsPlace p → text ≡ steps_text p → numbers ≡ p
ended text numbers rest h e p s f = ended_at numbers p (rw e at (h.only p s f))

pub whole : (text numbers rest : List ℕ) → AreRead text numbers rest → rest ≡ [] → text ≡ steps_text numbers
whole text numbers rest h e = h.front ∙ rw e (append-nil (steps_text numbers))

-- ---- the root

pub root_only : (text p : List ℕ) → text ≡ 47 ∷ [] → IsPlace p → text ≡ place_text p → [] ≡ p
root_only text [] e s f = refl
root_only text (n ∷ ns) e s f =
    let some = decimal_nonempty n (let l = first_small n ns s in omega arith) in
    let same : decimal n ++ steps_text ns ≡ [] = cc in
    absurd (omega (arith, ap length same, length-append (decimal n) (steps_text ns)))

pub no_root : (text p : List ℕ) → (text ≡ 47 ∷ [] → ⊥) → text ≡ place_text p → text ≡ steps_text p
no_root text [] none f = absurd (none f)
no_root text (n ∷ ns) none f = f

pub shorter : (rest behind : List ℕ) (n : ℕ) → rest ≡ step_text n ++ behind → length behind < length rest
shorter rest behind n e = omega (arith, ap length e, length-append (decimal n) behind)

pub nonempty : (rest : List ℕ) → false ≡ (length rest == 0) → rest ≡ [] → ⊥
nonempty [] b e = cc
nonempty (x ∷ xs) b e = cc

pub empty : (rest : List ℕ) → true ≡ (length rest == 0) → rest ≡ []
empty rest b = nil_from_length rest (eqb-true (length rest) 0 (sym b))
