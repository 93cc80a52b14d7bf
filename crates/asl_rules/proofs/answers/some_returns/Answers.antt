use Rattle.std.proofs.Common.{sym, ◌∙◌}
use Rattle.asl_rules.specs.Answers.{returns}
use Rattle.asl_rules.proofs.Below.{some_at}
use Rattle.asl_rules.proofs.answers.some_returns.Goals as goal

pub returns-then-returns : goal.returns-then-returns
returns-then-returns c = sym (some_at (returns c.args.case.now c.args.task.now) c.loop-number.number c.args.count c.loop-number-test.true (sym c.returns.ensures ∙ c.if-returns.true))
