-- What the outcomes of a search make of a test.
use Rattle.std.specs.Prelude.{ℕ, suc, Bool, true, false, if◌then◌else◌, length, slice_get, List, [], ◌∷◌, Option, Some, None, is_some}
use Rattle.asl_explore.specs.declared.calls.Calls.{Calls}
use Rattle.asl_explore.specs.declared.found.Found.{Found}
use Rattle.asl_explore.specs.declared.found.Explored.{Explored}
use Rattle.asl_explore.specs.declared.orders.Orders.{Orders}
use Rattle.asl_explore.specs.declared.orders.Orders.TheVariants.{Every, Prompt}
use Rattle.asl_suite_file.specs.declared.expectation.Expectation.{Expectation}
use Rattle.asl_suite_file.specs.declared.expectation.StateCount.{StateCount}
use Rattle.asl_suite.specs.Orders.{order_report}
use Rattle.asl_suite.specs.Reports.{is_passed}
use Rattle.asl_suite.specs.declared.suite.Suite.{Suite}
use Rattle.asl_suite.specs.declared.case_report.CaseReport.{CaseReport}
use Rattle.asl_suite.specs.declared.case_report.Search.{Search}
use Rattle.asl_suite.specs.declared.case_report.Unmet.{Unmet}
use Rattle.asl_suite.specs.declared.case_report.Verdict.{Verdict}
use Rattle.asl_suite.specs.declared.case_report.Verdict.TheVariants.{Invocations, Endless, Cut, Passed}
use Rattle.asl_suite_orders.specs.Counting.{are_always}

abbrev pub is_prompt : Orders → Bool
is_prompt Every = false
is_prompt Prompt = true

abbrev pub counts_any : List StateCount → Bool
counts_any [] = false
counts_any (v ∷ vs) = true

-- it is counted how often Tasks are invoked
abbrev pub counts : Expectation → Bool
counts x = counts_any x.states.invocations

-- what is reported where the steps are as the test expects, and orders that end alike invoke Tasks more
-- or less often
abbrev pub with_other_counts : CaseReport → CaseReport
with_other_counts r = record r { verdict = Invocations }

-- the first outcome that isn't as the test expects, by the steps that end in it, unless other orders that
-- end alike are why, and what is reported of it; so many stand before these
abbrev pub unmet_from : Suite → Expectation → List Calls → ℕ → List Found → Option (Option Unmet × CaseReport)
unmet_from s x cs n [] = None
unmet_from s x cs n (f ∷ fs) =
    if is_passed (order_report s x f.steps.items) then (
    if are_always s.machine (slice_get cs n) x then unmet_from s x cs (suc n) fs
    else Some (None, with_other_counts (order_report s x f.steps.items)))
    else Some (Some (record { number = suc n; steps = f.steps }), order_report s x f.steps.items)

abbrev pub search_of : Orders → Expectation → Explored → Option Unmet → Search
search_of o x e u = record {
  prompt = is_prompt o;
  calls = counts x;
  worlds = e.worlds;
  outcomes = length e.found.items;
  unmet = u;
}

-- the verdict where each outcome is as expected
abbrev pub met_verdict : Explored → Verdict
met_verdict e = if is_some e.endless then Endless else if e.complete then Passed else Cut

-- of a test of which the driven run is reported so
abbrev pub judged_by : Orders → Expectation → Explored → CaseReport → Option (Option Unmet × CaseReport) → CaseReport
judged_by o x e d None = record d { verdict = met_verdict e; search = Some (search_of o x e None) }
judged_by o x e d (Some (u, r)) = record r { search = Some (search_of o x e u) }

abbrev pub judged : Suite → Expectation → Orders → Explored → CaseReport → CaseReport
judged s x o e d = judged_by o x e d (unmet_from s x e.calls.items 0 e.found.items)
