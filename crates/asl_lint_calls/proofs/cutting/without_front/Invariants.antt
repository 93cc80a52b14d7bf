use Rattle.std.proofs.Common.{◌≡◌, length}
use denote.Shadow.{shadow}
use denote.Text.{Utf8}
use Rattle.asl_lint_calls.specs.Cutting.{without_front}
use Rattle.asl_lint_calls.proofs.cutting.without_front.Given as goal

abbrev pub invariant-loop-behind : goal.invariant-loop-behind
invariant-loop-behind l = (without_front l.rest ≡ without_front l.text) × shadow (Utf8 l.rest)

abbrev pub decreases-loop-behind : goal.decreases-loop-behind
decreases-loop-behind l = length l.rest
