use Rattle.std.proofs.Common.{◌≡◌, ◌++◌, drop}
use Rattle.std.specs.Prelude.{string_bytes}
use Rattle.std.specs.List.{flat_map}
use Rattle.asl_suite_coverage.specs.Points.{point_line}
use Rattle.asl_suite_coverage.proofs.reporting.put_points.Given as goal

-- the lines so far and those of what is left are those of all
abbrev pub invariant-loop-point : goal.invariant-loop-point
invariant-loop-point l = string_bytes l.out ++ flat_map point_line (drop l.point-index l.points) ≡ string_bytes l.fn.out ++ flat_map point_line l.points
