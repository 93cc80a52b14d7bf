-- Going on in a text behind where no path on the Context Object begins.
use Rattle.std.proofs.Common.{◌≡◌, ◌<◌, ◌+◌, ℕ, zero, suc, List, [], ◌∷◌, Bool, false, ◌||◌, ◌∙◌, drop, length, sym, ap, arith, add-one}
use Rattle.std.specs.Prelude.{codes}
use Rattle.asl_lint_warnings.specs.Texts.{begins}
use Rattle.asl_lint_warnings.specs.Tokens.{has_context}

passed_one : (bs : List ℕ) (i : ℕ) → i < length bs → begins (drop i bs) (codes "$$") ≡ false → has_context (drop (suc i) bs) ≡ has_context (drop i bs)
passed_one [] i lt h = absurd (omega arith)
passed_one (b ∷ bs) zero lt h = ap (λ (x : Bool). x || has_context bs) (sym h)
passed_one (b ∷ bs) (suc i) lt h = passed_one bs i (omega arith) h

pub passed : (bs : List ℕ) (i : ℕ) → i < length bs → begins (drop i bs) (codes "$$") ≡ false → has_context (drop (i + 1) bs) ≡ has_context (drop i bs)
passed bs i lt h = ap (λ (n : ℕ). has_context (drop n bs)) (add-one i) ∙ passed_one bs i lt h
