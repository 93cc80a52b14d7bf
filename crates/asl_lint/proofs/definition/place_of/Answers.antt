use Rattle.std.proofs.Common.{◌∙◌, ap, reverse, List, ℕ}
use Rattle.std.proofs.lemmas.List.{take_all}
use Rattle.asl_lint.specs.Findings.{numbers}
use Rattle.asl_lint.proofs.Telling.{numbers_back}
use Rattle.asl_lint.proofs.definition.place_of.Goals as goal

pub returns : goal.returns
returns c = c.reverse.ensures.items ∙ ap (λ (xs : List ℕ). reverse xs) (c.loop-step.invariant ∙ ap numbers (take_all c.loop-step.step-index c.args.steps.now c.loop-step-test.false)) ∙ numbers_back c.args.steps.now
