use Rattle.std.proofs.Common.{sym, ◌∙◌, ap, not, ℕ}
use Rattle.asl_rules.specs.Answers.{returns}
use Rattle.asl_rules.proofs.Below.{some_at}
use Rattle.asl_rules.proofs.answers.some_fails.Goals as goal

pub returns-then-not-returns : goal.returns-then-not-returns
returns-then-not-returns c = sym (some_at (λ (k : ℕ). not (returns c.args.case.now c.args.task.now k)) c.loop-number.number c.args.count c.loop-number-test.true (ap not (sym c.returns.ensures ∙ c.if-not-returns.true)))
