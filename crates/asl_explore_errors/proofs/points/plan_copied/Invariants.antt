use Rattle.std.proofs.Common.{◌≡◌, ◌++◌, drop}
use Rattle.asl_explore_errors.proofs.points.plan_copied.Given as goal

abbrev pub invariant-loop-point : goal.invariant-loop-point
invariant-loop-point l = l.copied.items ++ drop l.point-index l.plan ≡ l.plan
