-- Where the first line of a file ends.
use Rattle.std.proofs.Common.{ℕ, zero, suc, ◌≡◌, ◌<◌, ◌+◌, ◌-◌, List, [], ◌∷◌, length, take, drop, get_or, sym, ◌∙◌, ap, arith}
use Rattle.std.proofs.lemmas.Bool.{eq-eqb, ne_eqb}
use Rattle.std.proofs.lemmas.List.{take_all, length-drop}
use Rattle.asl_run_input.specs.FileLines.{lines_in, before_lines}

at_feed : (c : ℕ) (cs : List ℕ) → c ≡ 10 → lines_in (c ∷ cs) ≡ [] ∷ lines_in cs
at_feed c cs e = rw (eq-eqb c 10 e)

at_other : (c : ℕ) (cs : List ℕ) → (c ≡ 10 → ⊥) → lines_in (c ∷ cs) ≡ before_lines c (lines_in cs)
at_other c cs n = rw (ne_eqb c 10 n)

-- without a line feed there is one line
pub whole_line : (xs : List ℕ) → 0 < length xs → ((i : ℕ) → i < length xs → get_or xs i 0 ≡ 10 → ⊥) → lines_in xs ≡ xs ∷ []
whole_line [] l h = absurd (omega arith)
whole_line (c ∷ []) l h = at_other c [] (h 0 (omega arith))
whole_line (c ∷ d ∷ ds) l h = at_other c (d ∷ ds) (h 0 (omega arith)) ∙ ap (before_lines c) (whole_line (d ∷ ds) (omega arith) (λ i m. h (suc i) (omega arith)))

first_line : (xs : List ℕ) (k : ℕ) → k < length xs → get_or xs k 0 ≡ 10 → ((i : ℕ) → i < k → get_or xs i 0 ≡ 10 → ⊥) → lines_in xs ≡ take k xs ∷ lines_in (drop (suc k) xs)
first_line [] k l e h = absurd (omega arith)
first_line (c ∷ cs) zero l e h = at_feed c cs e
first_line (c ∷ cs) (suc k) l e h = at_other c cs (h 0 (omega arith)) ∙ ap (before_lines c) (first_line cs k (omega arith) e (λ i m. h (suc i) (omega arith)))

-- the first line ends before the first line feed
pub cut_line : (xs : List ℕ) (k : ℕ) → k < length xs → get_or xs k 0 ≡ 10 → ((i : ℕ) → i < k → get_or xs i 0 ≡ 10 → ⊥)
    → lines_in xs ≡ take k xs ∷ lines_in (take (length xs - (k + 1)) (drop (k + 1) xs))
cut_line xs k l e h =
    let rest : take (length xs - (k + 1)) (drop (k + 1) xs) ≡ drop (k + 1) xs = take_all _ _ (omega (arith, length-drop (k + 1) xs)) in
    let next : k + 1 ≡ suc k = omega arith in
    first_line xs k l e h ∙ ap (λ ys. take k xs ∷ lines_in ys) (sym (rest ∙ ap (λ n. drop n xs) next))
