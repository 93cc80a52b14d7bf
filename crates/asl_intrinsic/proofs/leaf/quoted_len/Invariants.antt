use Rattle.std.proofs.Common.{◌≡◌, ◌≤◌, ◌-◌, [], length, take, drop, List}
use Rattle.asl_intrinsic.specs.private.Steps.{chars, run}
use Rattle.asl_intrinsic.specs.Tree.{Frame}
use Rattle.asl_intrinsic.proofs.leaf.quoted_len.Given as goal

abbrev pub invariant-loop-end : goal.invariant-loop-end
invariant-loop-end l = (l.end ≤ length l.bytes) × ((st : List Frame) → run (chars []) st l.bytes ≡ run (chars (take l.end l.bytes)) st (drop l.end l.bytes))

abbrev pub decreases-loop-end : goal.decreases-loop-end
decreases-loop-end l = length l.bytes - l.end
