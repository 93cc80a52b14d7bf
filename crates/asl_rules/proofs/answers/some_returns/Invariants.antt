use Rattle.std.proofs.Common.{◌≡◌}
use Rattle.std.specs.Prelude.{false}
use Rattle.asl_rules.specs.Answers.{returns, some_below}
use Rattle.asl_rules.proofs.answers.some_returns.Given as goal

abbrev pub invariant-loop-number : goal.invariant-loop-number
invariant-loop-number l = some_below (returns l.case l.task) l.number ≡ false
