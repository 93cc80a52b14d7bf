use Rattle.std.proofs.Common.{◌≡◌, take, drop}
use Rattle.asl_lint_calls.specs.Cutting.{at_bracket}
use Rattle.asl_lint_calls.proofs.Dividing.{passed}
use Rattle.asl_lint_calls.proofs.cutting.at_bracket.Given as goal

abbrev pub invariant-loop-i : goal.invariant-loop-i
invariant-loop-i l = passed (take l.i l.text) (at_bracket (drop l.i l.text)) ≡ at_bracket l.text
