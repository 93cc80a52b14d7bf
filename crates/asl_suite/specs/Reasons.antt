-- Why a test isn't passed.
use Rattle.std.specs.Prelude.{ℕ, Bool, not, if◌then◌else◌, List, [], ◌∷◌, Option, Some, None, Result, Ok, Err}
use Rattle.asl_json_data.specs.Data.{Data, chain}
use Rattle.asl_json.specs.View.{data_of}
use Rattle.asl_json.specs.declared.value.Json.{Json}
use Rattle.asl_history.specs.declared.event.Event.{Event}
use Rattle.asl_mock.specs.Answers.{Case}
use Rattle.asl_mock.specs.declared.fault.CaseFault.{CaseFault}
use Rattle.asl_run_state.specs.World.{World, is_over}
use Rattle.asl_exec.specs.Driving.{most_steps}
use Rattle.asl_exec.specs.Lacking.{unanswered_in}
use Rattle.asl_run_state.specs.declared.outcome.Outcome.{Outcome}
use Rattle.asl_run_state.specs.declared.outcome.Outcome.TheVariants.{Running, Succeeded, Failed, TimedOut}
use Rattle.asl_run_input.specs.Chosen.{case_or_empty}
use Rattle.asl_suite_file.specs.Differences.{first_difference, in_items}
use Rattle.asl_suite_file.specs.declared.difference.Difference.{Difference}
use Rattle.asl_suite_file.specs.declared.expectation.Expectation.{Expectation}
use Rattle.asl_suite_file.specs.declared.expectation.StateCount.{StateCount}
use Rattle.asl_suite_file.specs.declared.expectation.StateCalls.{StateCalls}
use Rattle.asl_suite_file.specs.declared.holding.Likeness.{Likeness}
use Rattle.asl_suite_file.specs.declared.holding.Likeness.TheVariants.{Same, Holding}
use Rattle.asl_suite.specs.Cases.{is_wanted, has_error, has_cause, entries, is_visited, invocations, is_invoked, inputs_of, is_called, test_world}
use Rattle.asl_suite.specs.declared.suite.Suite.{Suite}
use Rattle.asl_suite.specs.declared.case_report.Verdict.{Verdict}
use Rattle.asl_suite.specs.declared.case_report.Verdict.TheVariants as verdict
use Rattle.asl_suite.specs.declared.reason.Reason.{Reason}
use Rattle.asl_suite.specs.declared.reason.Reason.TheVariants as reason

-- ---- the output

-- this one is wanted, and there is none
abbrev pub no_output : Json → Difference
no_output y = record { place = []; wanted = Some y; came = None }

abbrev pub output_difference : Likeness → Option Json → Outcome → Option Difference
output_difference l None o = None
output_difference l (Some y) (Succeeded x) = first_difference l (data_of y) (data_of x)
output_difference l (Some y) Running = Some (no_output y)
output_difference l (Some y) (Failed e) = Some (no_output y)
output_difference l (Some y) TimedOut = Some (no_output y)

-- ---- what states did

-- the first of a list for which this doesn't hold
abbrev pub first_not : {A : Type 0} → (A → Bool) → List A → Option A
first_not f [] = None
first_not f (x ∷ xs) = if f x then first_not f xs else Some x

-- where the inputs of a Task's services differ first from those that are wanted
abbrev pub calls_difference : List Event → StateCalls → Difference
calls_difference es c = in_items Same [] 0 (chain c.inputs) (chain (inputs_of c.state es))

-- ---- the reason

abbrev pub by_calls : List Event → Option StateCalls → Reason
by_calls es None = reason.Passed
by_calls es (Some c) = reason.Calls c.state (calls_difference es c)

abbrev pub by_invocations : Data → World → Option StateCount → Reason → Reason
by_invocations d w None r = r
by_invocations d w (Some v) r = reason.Invocations v (invocations d w.counts v.state)

abbrev pub by_visits : World → Option StateCount → Reason → Reason
by_visits w None r = r
by_visits w (Some v) r = reason.Visits v (entries v.state w.events)

abbrev pub reason_by_states : Data → Expectation → World → Reason
reason_by_states d x w =
    by_visits w (first_not (is_visited w.events) x.states.visits)
    (by_invocations d w (first_not (is_invoked d w.counts) x.states.invocations)
    (by_calls w.events (first_not (is_called w.events) x.states.calls)))

abbrev pub reason_by_error : Data → Expectation → World → Reason
reason_by_error d x w =
    if not (has_error x.end.error w.outcome) then reason.Error x.end.error w.outcome
    else if not (has_cause x.end.cause w.outcome) then reason.Cause x.end.cause w.outcome
    else reason_by_states d x w

abbrev pub by_part : Option Difference → Reason → Reason
by_part None r = r
by_part (Some d) r = reason.Match d

abbrev pub by_output : Option Difference → Reason → Reason
by_output None r = r
by_output (Some d) r = reason.Output d

-- where the status is wanted
abbrev pub reason_by_end : Data → Expectation → World → Reason
reason_by_end d x w =
    by_output (output_difference Same x.end.output w.outcome)
    (by_part (output_difference Holding x.end.part w.outcome) (reason_by_error d x w))

-- how it ended isn't wanted
abbrev pub by_status : Expectation → Case → World → Reason
by_status x c w = reason.Status x.end.status w.outcome (unanswered_in c w)

-- in a world in which it ended, with this case, in the machine of this definition
abbrev pub reason_in : Data → Expectation → Case → World → Reason
reason_in d x c w =
    if not (is_over w.outcome) then reason.Limit
    else if not (is_wanted x.end.status w.outcome) then by_status x c w
    else reason_by_end d x w

abbrev pub reason_by : ℕ → Suite → Expectation → Result Case CaseFault → Reason
reason_by limit s x (Err e) = reason.NoCase e
reason_by limit s x (Ok c) = reason_in s.machine x c (test_world limit s x c)

abbrev pub reason_within : ℕ → Suite → Expectation → Reason
reason_within limit s x = reason_by limit s x (case_or_empty s.mocks x.machine x.case)

abbrev pub reason_for : Suite → Expectation → Reason
reason_for s x = reason_within most_steps s x

-- the verdict that goes with it
abbrev pub verdict_by : Reason → Verdict
verdict_by (reason.NoCase e) = verdict.NoCase
verdict_by reason.Limit = verdict.Limit
verdict_by (reason.Status w o u) = verdict.Status
verdict_by (reason.Output d) = verdict.Output
verdict_by (reason.Match d) = verdict.Match
verdict_by (reason.Error w o) = verdict.Error
verdict_by (reason.Cause w o) = verdict.Cause
verdict_by (reason.Visits v n) = verdict.Visits
verdict_by (reason.Invocations v n) = verdict.Invocations
verdict_by (reason.Calls n d) = verdict.Calls
verdict_by reason.Passed = verdict.Passed
