use Rattle.std.proofs.Common.{length, take, ◌-◌, ◌≤◌}
use Rattle.asl_json_data.specs.Text.{ArePlain}
use Rattle.asl_json_scan.proofs.front.plain_blocks_end.Given as goal

abbrev pub invariant-loop-end : goal.invariant-loop-end
invariant-loop-end l = ArePlain (take l.end l.bytes) × (l.end ≤ length l.bytes)

abbrev pub decreases-loop-end : goal.decreases-loop-end
decreases-loop-end l = length l.bytes - l.end
