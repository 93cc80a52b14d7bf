use Rattle.std.proofs.Common.{◌≡◌, ◌++◌, drop}
use Rattle.asl_explore_errors.specs.Points.{errors_of}
use Rattle.asl_explore_errors.proofs.points.errors_of.Given as goal

-- the errors so far and those of what is left are all
abbrev pub invariant-loop-point : goal.invariant-loop-point
invariant-loop-point l = l.errors.items ++ errors_of (drop l.point-index l.plan) ≡ errors_of l.plan
