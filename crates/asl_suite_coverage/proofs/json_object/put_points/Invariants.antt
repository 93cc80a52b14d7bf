use Rattle.std.proofs.Common.{◌≡◌, ◌++◌, drop}
use Rattle.std.specs.Prelude.{string_bytes}
use Rattle.asl_suite_coverage.specs.JsonText.{points_from}
use Rattle.asl_suite_coverage.proofs.json_object.put_points.Given as goal

-- those so far and those of what is left are those of all
abbrev pub invariant-loop-number : goal.invariant-loop-number
invariant-loop-number l = string_bytes l.out ++ points_from l.number (drop l.number l.sites) ≡ string_bytes l.fn.out ++ points_from 0 l.sites
