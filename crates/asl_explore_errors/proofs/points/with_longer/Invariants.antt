use Rattle.std.proofs.Common.{◌≡◌, ◌++◌, drop}
use Rattle.std.specs.List.{flat_map}
use Rattle.asl_explore_errors.specs.Points.{plans_in, with_point}
use Rattle.asl_explore_errors.proofs.points.with_longer.Given as goal

-- the plans so far and those of what is left are all
abbrev pub invariant-loop-point : goal.invariant-loop-point
invariant-loop-point l = plans_in l.plans.items ++ flat_map (with_point l.plan) (drop l.point-index l.points) ≡ plans_in l.fn.plans.items ++ flat_map (with_point l.plan) l.points
