use Rattle.std.proofs.Common.{◌≡◌, ◌++◌, drop}
use Rattle.std.specs.Prelude.{string_bytes}
use Rattle.asl_suite_coverage.specs.LcovText.{branch_lines}
use Rattle.asl_suite_coverage.proofs.tracefile.put_branches.Given as goal

-- those so far and those of what is left are those of all
abbrev pub invariant-loop-number : goal.invariant-loop-number
invariant-loop-number l = string_bytes l.out ++ branch_lines l.number (drop l.number l.sites) ≡ string_bytes l.fn.out ++ branch_lines 0 l.sites
