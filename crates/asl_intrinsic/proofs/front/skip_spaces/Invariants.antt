use Rattle.std.proofs.Common.{length, ◌≤◌}
use denote.Shadow.{shadow}
use denote.Text.{Utf8}
use Rattle.asl_intrinsic.specs.private.Leads.{Led}
use Rattle.asl_intrinsic.proofs.front.skip_spaces.Given as goal

abbrev pub invariant-loop-behind : goal.invariant-loop-behind
invariant-loop-behind l = Led l.text l.rest × (length l.rest ≤ length l.text) × shadow (Utf8 l.rest)

abbrev pub decreases-loop-behind : goal.decreases-loop-behind
decreases-loop-behind l = length l.rest
