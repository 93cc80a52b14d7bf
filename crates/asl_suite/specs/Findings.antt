-- What formats say of what is told of a test.
use Rattle.std.specs.Prelude.{Bool, List, map}
use Rattle.asl_suite.specs.Reports.{is_passed}
use Rattle.asl_suite.specs.declared.finding.Finding.{Finding}
use Rattle.asl_suite.specs.declared.case_report.CaseReport.{CaseReport}

-- whether the test is `ok`
abbrev pub is_good : Finding → Bool
is_good f = is_passed f.report.now

-- the reports that are told of, in order
abbrev pub reports_in : List Finding → List CaseReport
reports_in fs = map (λ (f : Finding). f.report.now) fs
