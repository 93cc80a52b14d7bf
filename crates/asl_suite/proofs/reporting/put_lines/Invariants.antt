use Rattle.std.proofs.Common.{◌≡◌, ◌++◌, drop}
use Rattle.std.specs.Prelude.{string_bytes}
use Rattle.std.specs.List.{flat_map}
use Rattle.asl_suite.specs.Reports.{report_line}
use Rattle.asl_suite.proofs.reporting.put_lines.Given as goal

-- the lines so far and those of what is left are those of all
abbrev pub invariant-loop-report : goal.invariant-loop-report
invariant-loop-report l = string_bytes l.out ++ flat_map report_line (drop l.report-index l.reports) ≡ string_bytes l.fn.out ++ flat_map report_line l.reports
