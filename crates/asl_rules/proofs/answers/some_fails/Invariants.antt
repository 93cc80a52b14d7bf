use Rattle.std.proofs.Common.{◌≡◌, not}
use Rattle.std.specs.Prelude.{false}
use Rattle.asl_rules.specs.Answers.{returns, some_below}
use Rattle.asl_rules.proofs.answers.some_fails.Given as goal

abbrev pub invariant-loop-number : goal.invariant-loop-number
invariant-loop-number l = some_below (λ k. not (returns l.case l.task k)) l.number ≡ false
