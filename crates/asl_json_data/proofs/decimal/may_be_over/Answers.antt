use Rattle.std.proofs.Common.{◌≡◌, ◌≤◌, ℕ, List, [], ◌∷◌, length, subst, sym, ap, ◌∙◌, refl, arith}
use Rattle.std.proofs.lemmas.Bool.{ltb-false}
use Rattle.asl_json_data.proofs.Plainly.{few_fit}
use Rattle.asl_json_data.proofs.decimal.may_be_over.Goals as goal

none_in : (xs : List ℕ) → length xs ≤ 0 → xs ≡ []
none_in [] h = refl
none_in (x ∷ xs) h = absurd (omega arith)

pub returns-else-integer-gt-INTEGER : goal.returns-else-integer-gt-INTEGER
returns-else-integer-gt-INTEGER c = λ few.
    let parts = c.parts.ensures in
    let none = sym parts.exponent ∙ none_in c.parts.result.2.now c.if-exponent-gt0.false in
    let integer = subst (λ (x : List ℕ). length x ≤ 18) parts.integer c.if-integer-gt-INTEGER.false in
    let fraction = subst (λ (x : List ℕ). length x ≤ 9) parts.fraction (ltb-false 9 (length c.parts.result.1.now) few) in
    few_fit c.args.spelled.now c.requires c.if-spelled-gt-MAX_LEN.false none integer fraction
