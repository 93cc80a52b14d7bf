use Rattle.std.proofs.Common.{◌≡◌, length, ◌+◌}
use Rattle.asl_json_data.specs.Compact.{escaped}
use Rattle.asl_json_write.proofs.within.room_behind_escaped.Given as goal

abbrev pub invariant-loop-left : goal.invariant-loop-left
invariant-loop-left l = length (escaped l.bytes) + l.left ≡ l.room + length (escaped l.rest)

abbrev pub decreases-loop-left : goal.decreases-loop-left
decreases-loop-left l = length l.rest
