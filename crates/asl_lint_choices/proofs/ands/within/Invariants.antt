use Rattle.std.proofs.Common.{◌≡◌, ◌++◌, drop}
use Rattle.asl_lint_choices.proofs.ands.within.Given as goal

abbrev pub invariant-loop-outer : goal.invariant-loop-outer
invariant-loop-outer l = l.inner.items ++ drop l.outer-index l.place ≡ l.place
