use Rattle.std.proofs.Common.{take, ◌-◌, ◌≤◌}
use Rattle.asl_json_data.specs.Text.{ArePlain}
use Rattle.asl_json_scan.proofs.front.plain_end.Given as goal

abbrev pub invariant-loop-end : goal.invariant-loop-end
invariant-loop-end l = ArePlain (take l.end l.bytes) × (l.end ≤ l.to)

abbrev pub decreases-loop-end : goal.decreases-loop-end
decreases-loop-end l = l.to - l.end
