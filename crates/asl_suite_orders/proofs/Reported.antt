-- The reports of a suite of which each test has to hold in every order of its branches.
use denote.Param.Send.{IsSync, sendable}
use denote.Ref.{NamedLft}
use Rattle.std.specs.Prelude.{Option, Some, None, Result, Ok, Err, IfOk, IfSome, MatchResult, slice_get}
use Rattle.std.specs.declared.alloc.AllocError.{AllocError}
use Rattle.std.specs.Global.{Vec}
use Rattle.std.proofs.Common.{ℕ}
use Rattle.asl_suite.specs.declared.case_report.CaseReport.{CaseReport}
use Rattle.asl_suite_workers.specs.Cases.{IsRun, IsEach, IsFault}
use Rattle.asl_suite_workers.specs.declared.cases.SuiteFault.{SuiteFault}
use Rattle.asl_suite_workers.proofs.Crossing.{suite_sync}
use Rattle.asl_suite_orders.specs.contracts.suites.InOrders.{the_row as in_orders_row}
use Rattle.asl_explore.specs.declared.orders.Orders.{Orders}
use Rattle.asl_suite_file.specs.declared.expectation.Expectation.{Expectation}
use Rattle.asl_suite.specs.declared.suite.Suite.{Suite}
use Rattle.asl_suite_orders.specs.Testing.{IsReported, Holds}
use Rattle.asl_suite_orders.specs.Suites.{count_in, Gives, IsReportedAt, AreReported}
use Rattle.asl_suite_orders.specs.declared.suites.InOrders.{InOrders}

pub in_orders_sync : (κ : NamedLft) → IsSync (in_orders_row κ)
in_orders_sync κ = search (suite_sync, sendable) depth 60 fits 20000

pub all-reported : (began ended : ℕ → ℕ → Type 0) (q : InOrders) (r : Result (Vec CaseReport) SuiteFault)
    → MatchResult r (λ v. IsEach (count_in q) (IsRun began ended (Gives q)) v.items) (IsFault (count_in q) (IsRun began ended (Gives q)))
    → IfOk r (λ v. AreReported q.orders q.limit q.suite.now v.items)
all-reported began ended q (Ok v) h = record { len = h.len; each = λ i d lt. (h.each i d lt).outcome }
all-reported began ended q (Err e) h = tt

-- the report of a number, and what it says
pub both-at : (o : Orders) (limit : ℕ) (s : Suite) (i : ℕ) (r : Result CaseReport AllocError) → IfOk r (λ q. IfSome (slice_get s.tests.list.items i) (λ x. IsReported o limit s x q)) → IfOk r (λ q. IfSome (slice_get s.tests.list.items i) (λ x. Holds o s x q)) → IfOk r (IsReportedAt o limit s i)
both-at o limit s i (Err e) h k = tt
both-at o limit s i (Ok q) h k = at (slice_get s.tests.list.items i) h k
  where
    at : (t : Option Expectation) → IfSome t (λ x. IsReported o limit s x q) → IfSome t (λ x. Holds o s x q) → IfSome t (λ x. IsReported o limit s x q × Holds o s x q)
    at None h k = tt
    at (Some x) h k = (h, k)
