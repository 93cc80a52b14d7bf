-- What is reported of a test that has to hold in every order of its branches.
use Rattle.std.specs.Prelude.{ℕ, Bool, true, false, ◌&&◌, ◌≡◌, ◌⊎◌, List, Some, None, is_some, is_none}
use Rattle.std.specs.List.{list_all}
use Rattle.asl_run_state.specs.World.{is_over}
use Rattle.asl_run_state.specs.declared.outcome.Outcome.{Outcome}
use Rattle.asl_run_input.specs.declared.setup.Setup.{Setup}
use Rattle.asl_exec.specs.Steps.{opening}
use Rattle.asl_explore.specs.Orders.{AreTried, after_order}
use Rattle.asl_explore.specs.Endless.{EachEndsOrFills}
use Rattle.asl_explore.specs.Finding.{IsFound}
use Rattle.asl_explore.specs.declared.found.Explored.{Explored}
use Rattle.asl_explore.specs.declared.orders.Orders.{Orders}
use Rattle.asl_suite_file.specs.declared.expectation.Expectation.{Expectation}
use Rattle.asl_suite_file.specs.declared.holding.Likeness.TheVariants.{Same, Holding}
use Rattle.asl_suite.specs.Cases.{is_wanted, is_output, has_error, has_cause, is_invoked, setup_in, report_on}
use Rattle.asl_suite.specs.Orders.{for_orders}
use Rattle.asl_suite.specs.Reports.{is_passed}
use Rattle.asl_suite.specs.declared.suite.Suite.{Suite}
use Rattle.asl_suite.specs.declared.case_report.CaseReport.{CaseReport}
use Rattle.asl_suite.specs.declared.case_report.Verdict.TheVariants.{Passed}
use Rattle.asl_suite_orders.specs.Judging.{counts, judged}

-- no order is tried: the driven run isn't as expected, the test has steps of its own, or its case isn't
-- in the mock file
abbrev pub IsDecided : Suite → Expectation → CaseReport → Type 0
IsDecided s x d =
    (is_passed d ≡ false) ⊎ ((is_some x.steps ≡ true) ⊎ (setup_in s x ≡ None))

-- it needs no orders: the driven run isn't as expected, or the test has steps of its own
abbrev pub IsPlain : Expectation → CaseReport → Type 0
IsPlain x d = (is_passed d ≡ false) ⊎ (is_some x.steps ≡ true)

-- what a search of these orders may find, of so many worlds at most, decides
pub record IsSearched (o : Orders) (limit : ℕ) (s : Suite) (x : Expectation) (d r : CaseReport)
    : Type 0 where
  pub setup : Setup
  pub is_setup : setup_in s x ≡ Some setup
  pub explored : Explored
  pub found : IsFound o (counts x) limit setup explored
  pub report : r ≡ judged s (for_orders x) o explored d

-- what is reported of a test, of which the driven run is reported so
abbrev pub IsReportedFrom : Orders → ℕ → Suite → Expectation → CaseReport → CaseReport → Type 0
IsReportedFrom o limit s x d r =
    (IsDecided s x d × (r ≡ d)) ⊎ IsSearched o limit s x d r

abbrev pub IsReported : Orders → ℕ → Suite → Expectation → CaseReport → Type 0
IsReported o limit s x r = IsReportedFrom o limit s x (report_on s x) r

-- ---- what `ok` says

-- an execution that ends so is as expected
abbrev pub is_met : Expectation → Outcome → Bool
is_met x o =
    is_wanted x.end.status o && (is_output Same x.end.output o && (is_output Holding x.end.part o
    && (has_error x.end.error o && has_cause x.end.cause o)))

-- of an execution that begins so, each order that is tried ends as expected if it ends, with as many
-- invocations as are expected, and each can be gone on with: to an end, or until no history has room for
-- more
pub record HoldsFrom (o : Orders) (x : Expectation) (t : Setup) : Type 0 where
  pub met : (ps : List (List ℕ)) → AreTried o t (opening t) ps
      → is_over (after_order t (opening t) ps).outcome ≡ true
      → is_met x (after_order t (opening t) ps).outcome ≡ true
  pub ends : EachEndsOrFills o t
  pub invoked : (ps : List (List ℕ)) → AreTried o t (opening t) ps
      → is_over (after_order t (opening t) ps).outcome ≡ true
      → list_all (is_invoked t.machine (after_order t (opening t) ps).counts) x.states.invocations ≡ true

-- a test that is reported so and is `ok` holds in every order, unless it has steps of its own
abbrev pub Holds : Orders → Suite → Expectation → CaseReport → Type 0
Holds o s x r =
    r.verdict ≡ Passed → is_none x.steps ≡ true → (t : Setup) → setup_in s x ≡ Some t → HoldsFrom o x t
