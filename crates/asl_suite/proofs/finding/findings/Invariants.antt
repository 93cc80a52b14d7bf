use Rattle.std.proofs.Common.{◌≡◌, ◌++◌, drop}
use Rattle.asl_suite.specs.Findings.{reports_in}
use Rattle.asl_suite.proofs.finding.findings.Given as goal

-- those that are told of and those that are left are all
abbrev pub invariant-loop-report : goal.invariant-loop-report
invariant-loop-report l = reports_in l.findings.items ++ drop l.report-index l.reports ≡ l.reports
