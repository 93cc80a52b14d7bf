use Rattle.std.proofs.Common.{◌≡◌, drop}
use Rattle.asl_lint_calls.specs.Known.{first_unfit}
use Rattle.asl_lint_calls.specs.private.View.{all_seen}
use Rattle.asl_lint_calls.proofs.known.first_unfit.Given as goal

abbrev pub invariant-loop-i : goal.invariant-loop-i
invariant-loop-i l = first_unfit l.function l.i (all_seen (drop l.i l.arguments)) ≡ first_unfit l.function 0 (all_seen l.arguments)
