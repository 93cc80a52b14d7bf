use Rattle.std.proofs.Common.{length, drop, ◌≤◌}
use Rattle.asl_json_data.specs.private.Places.{AreZeros}
use Rattle.asl_json_data.proofs.decimal.significant_len.Given as goal

abbrev pub invariant-loop-end : goal.invariant-loop-end
invariant-loop-end l = AreZeros (drop l.end l.digits) × (l.end ≤ length l.digits)

abbrev pub decreases-loop-end : goal.decreases-loop-end
decreases-loop-end l = l.end
