use Rattle.std.proofs.Common.{◌≡◌, ◌++◌, drop}
use Rattle.std.specs.Prelude.{map, filter}
use Rattle.asl_suite_coverage.specs.Points.{is_in}
use Rattle.asl_suite_coverage.proofs.siting.own_points.Given as goal

-- those so far and those of what is left are those of all
abbrev pub invariant-loop-point : goal.invariant-loop-point
invariant-loop-point l = map (λ p. p.now) l.own.items ++ filter (is_in l.file) (drop l.point-index l.points) ≡ filter (is_in l.file) l.points
