use Rattle.std.proofs.Common.{◌≡◌, ◌≤◌, ◌-◌, length, take, Some}
use Rattle.asl_json_data.specs.private.NumberParts.{part_behind}
use Rattle.asl_json_data.specs.declared.part.Part.TheVariants.{Start}
use Rattle.asl_json_scan.proofs.number.longest_number.Given as goal

abbrev pub invariant-loop-end : goal.invariant-loop-end
invariant-loop-end l = (part_behind (Some Start) (take l.end l.bytes) ≡ Some l.part) × (l.end ≤ length l.bytes)

abbrev pub decreases-loop-end : goal.decreases-loop-end
decreases-loop-end l = length l.bytes - l.end
