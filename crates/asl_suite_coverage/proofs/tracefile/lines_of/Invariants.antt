use Rattle.std.proofs.Common.{◌≡◌, ◌++◌, drop}
use Rattle.asl_suite_coverage.specs.LcovText.{lines_among}
use Rattle.asl_suite_coverage.proofs.tracefile.lines_of.Given as goal

-- those so far and those of what is left are those of all
abbrev pub invariant-loop-i : goal.invariant-loop-i
invariant-loop-i l = l.lines.items ++ lines_among l.sites (drop l.i l.sites) ≡ lines_among l.sites l.sites
