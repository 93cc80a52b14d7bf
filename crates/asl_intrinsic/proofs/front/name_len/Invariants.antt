use Rattle.std.proofs.Common.{length, take, ◌-◌, ◌≤◌}
use Rattle.asl_intrinsic.specs.Grammar.{is_name_byte}
use Rattle.asl_path.specs.Grammar.{Each}
use Rattle.asl_intrinsic.proofs.front.name_len.Given as goal

abbrev pub invariant-loop-end : goal.invariant-loop-end
invariant-loop-end l = Each is_name_byte (take l.end l.bytes) × (l.end ≤ length l.bytes)

abbrev pub decreases-loop-end : goal.decreases-loop-end
decreases-loop-end l = length l.bytes - l.end
