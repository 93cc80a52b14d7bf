use Rattle.std.proofs.Common.{◌≡◌, ◌≤◌, ◌-◌, length, drop}
use Rattle.asl_json_spans.specs.private.Marks.{behind_spaces}
use Rattle.asl_json_spans.proofs.front.behind_spaces.Given as goal

abbrev pub invariant-loop-end : goal.invariant-loop-end
invariant-loop-end l = (behind_spaces (drop l.end l.bytes) ≡ behind_spaces l.bytes) × (l.end ≤ length l.bytes)

abbrev pub decreases-loop-end : goal.decreases-loop-end
decreases-loop-end l = length l.bytes - l.end
