-- The tests of a suite that have to hold in every order of their branches.
use Rattle.std.specs.Prelude.{ℕ, ◌≡◌, ◌<◌, List, length, Result, IfOk, IfSome, slice_get, slice_index_or}
use Rattle.std.specs.declared.alloc.AllocError.{AllocError}
use Rattle.asl_explore.specs.declared.orders.Orders.{Orders}
use Rattle.asl_suite.specs.declared.suite.Suite.{Suite}
use Rattle.asl_suite.specs.declared.case_report.CaseReport.{CaseReport}
use Rattle.asl_suite_workers.specs.Suites.{test_count}
use Rattle.asl_suite_orders.specs.declared.suites.InOrders.{InOrders}
use Rattle.asl_suite_orders.specs.Testing.{IsReported, Holds}

abbrev pub count_in : InOrders → ℕ
count_in q = test_count q.suite.now

-- this may be reported of the test of a number
abbrev pub IsReportedAt : Orders → ℕ → Suite → ℕ → CaseReport → Type 0
IsReportedAt o limit s i r =
    IfSome (slice_get s.tests.list.items i) (λ x. IsReported o limit s x r × Holds o s x r)

-- what the run of a test may give: its report, or want of memory
abbrev pub Gives : InOrders → ℕ → Result CaseReport AllocError → Type 0
Gives q i r = IfOk r (IsReportedAt q.orders q.limit q.suite.now i)

-- a report for each test, in order
pub record AreReported (o : Orders) (limit : ℕ) (s : Suite) (reports : List CaseReport) : Type 0 where
  pub len : length reports ≡ test_count s
  pub each : (i : ℕ) (d : CaseReport) → i < test_count s
      → IsReportedAt o limit s i (slice_index_or reports i d)
