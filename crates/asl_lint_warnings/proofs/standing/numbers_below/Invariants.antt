use Rattle.std.proofs.Common.{◌≡◌}
use Rattle.asl_lint_warnings.specs.Graphs.{numbers_below}
use Rattle.asl_lint_warnings.proofs.standing.numbers_below.Given as goal

abbrev pub invariant-loop-i : goal.invariant-loop-i
invariant-loop-i l = l.all.items ≡ numbers_below l.i
