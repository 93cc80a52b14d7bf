use Rattle.std.proofs.Common.{◌∙◌, ◌-◌, ap, sym, List, ℕ, codes, drop, length, take}
use Rattle.std.proofs.lemmas.List.{take_rest}
use Rattle.asl_lint_warnings.specs.Texts.{begins}
use Rattle.asl_lint_warnings.proofs.Passing.{passed}
use Rattle.asl_lint_warnings.proofs.token.has_context.Goals as goal

pub loop-i-preserved : goal.loop-i-preserved
loop-i-preserved c =
    let bs = c.as_bytes-bytes.result.now in
    let i = c.loop-i.i in
    passed bs i c.loop-i-test.true
    (ap (λ (xs : List ℕ). begins xs (codes "$$")) (sym (take_rest bs i))
    ∙ ap (λ (front : List ℕ). begins (take (length bs - i) (drop i bs)) front) (sym c.as_bytes.ensures.value)
    ∙ sym c.starts_with.ensures.value ∙ c.if-starts_with.false)
    ∙ c.loop-i.invariant
