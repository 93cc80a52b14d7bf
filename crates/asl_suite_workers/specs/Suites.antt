-- The tests of a suite as cases.
use Rattle.std.specs.Prelude.{ℕ, ◌≡◌, length, Some, Result, IfOk, slice_get}
use Rattle.std.specs.Option.{option_map}
use Rattle.std.specs.declared.alloc.AllocError.{AllocError}
use Rattle.asl_suite.specs.Cases.{report_on}
use Rattle.asl_suite.specs.declared.suite.Suite.{Suite}
use Rattle.asl_suite.specs.declared.case_report.CaseReport.{CaseReport}

abbrev pub test_count : Suite → ℕ
test_count s = length s.tests.list.items

-- what the run of a test may give: its report, or want of memory
abbrev pub Gives : Suite → ℕ → Result CaseReport AllocError → Type 0
Gives s i r = IfOk r (λ report. option_map (report_on s) (slice_get s.tests.list.items i) ≡ Some report)
