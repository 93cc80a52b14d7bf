use Rattle.std.proofs.Common.{◌≡◌, ◌++◌, drop}
use Rattle.asl_lint_choices.proofs.ands.add_told.Given as goal

abbrev pub invariant-loop-number : goal.invariant-loop-number
invariant-loop-number l = l.own.items ++ drop l.number-index l.place ≡ l.place
