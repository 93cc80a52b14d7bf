use Rattle.std.proofs.Common.{◌≡◌, ◌++◌, map, take, drop, length}
use Rattle.asl_suite_coverage.specs.Points.{with_spots}
use Rattle.asl_suite_coverage.proofs.marking.cover_all.Given as goal

-- those so far are covered, and those that are left will be
abbrev pub invariant-loop-i : goal.invariant-loop-i
invariant-loop-i l = record {
  covered : take l.i l.points.items ++ map (with_spots l.seen) (drop l.i l.points.items) ≡ map (with_spots l.seen) l.fn.points.items;
  long : length l.points.items ≡ length l.fn.points.items;
}
