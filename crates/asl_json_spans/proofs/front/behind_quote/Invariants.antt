use Rattle.std.proofs.Common.{◌≡◌, ◌≤◌, ◌-◌, length, drop, false}
use Rattle.asl_json_spans.specs.private.Marks.{behind_quote}
use Rattle.asl_json_spans.proofs.front.behind_quote.Given as goal

abbrev pub invariant-loop-end : goal.invariant-loop-end
invariant-loop-end l = (behind_quote l.escaped (drop l.end l.bytes) ≡ behind_quote false l.bytes) × (l.end ≤ length l.bytes)

abbrev pub decreases-loop-end : goal.decreases-loop-end
decreases-loop-end l = length l.bytes - l.end
