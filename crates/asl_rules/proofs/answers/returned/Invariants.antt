use Rattle.std.proofs.Common.{◌≡◌, ◌≤◌}
use Rattle.asl_rules.specs.Answers.{returned}
use Rattle.asl_rules.proofs.answers.returned.Given as goal

abbrev pub invariant-loop-number : goal.invariant-loop-number
invariant-loop-number l = (l.found ≡ returned l.case l.task l.number) × (l.found ≤ l.number)
