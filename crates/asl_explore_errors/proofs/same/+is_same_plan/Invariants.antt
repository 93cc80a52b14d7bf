use Rattle.std.proofs.Common.{length}
use Rattle.asl_explore_errors.proofs.same.+is_same_plan.Given as goal

abbrev pub decreases-is_same_plan : goal.decreases-is_same_plan
decreases-is_same_plan l = length l.one.now
