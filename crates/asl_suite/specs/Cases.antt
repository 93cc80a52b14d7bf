-- What is reported of a test.
use Rattle.std.specs.Prelude.{ℕ, Bool, true, false, not, ◌&&◌, nat_eq, if◌then◌else◌, List, [], ◌∷◌, length, map, Option, Some, None, option_map, Result, Ok, Err, count_by}
use Rattle.std.specs.Result.{result_ok}
use Rattle.std.specs.List.{list_all}
use Rattle.asl_json_data.specs.Data.{Data, chain}
use Rattle.asl_json.specs.Meaning.{same_items}
use Rattle.asl_json.specs.Same.{bytes_eq}
use Rattle.asl_json.specs.View.{data_of}
use Rattle.asl_json.specs.declared.value.Json.{Json}
use Rattle.asl_history.specs.declared.event.Event.{Event}
use Rattle.asl_history.specs.Kinds.{is_entered}
use Rattle.asl_mock.specs.Answers.{Case}
use Rattle.asl_mock.specs.declared.fault.CaseFault.{CaseFault}
use Rattle.asl_def.specs.Machines.{state_number}
use Rattle.asl_run_state.specs.World.{World, is_over, count_of, timeout_error}
use Rattle.asl_run_state.specs.declared.outcome.Outcome.{Outcome}
use Rattle.asl_run_state.specs.declared.outcome.Outcome.TheVariants.{Running, Succeeded, Failed, TimedOut}
use Rattle.asl_run_input.specs.Chosen.{name_or_run, case_or_empty}
use Rattle.asl_run_input.specs.Texts.{start_of}
use Rattle.asl_run_input.specs.declared.setup.Setup.{Setup}
use Rattle.asl_run_input.specs.declared.step_at.StepAt.{StepAt}
use Rattle.asl_exec.specs.Driving.{most_steps}
use Rattle.asl_exec.specs.RunText.{world_by}
use Rattle.asl_exec.specs.Steps.{opening}
use Rattle.asl_exec.specs.Lacking.{invokes}
use Rattle.asl_suite_file.specs.Holding.{is_like}
use Rattle.asl_suite_file.specs.declared.holding.Likeness.{Likeness}
use Rattle.asl_suite_file.specs.declared.holding.Likeness.TheVariants.{Same, Holding}
use Rattle.asl_suite_file.specs.declared.expectation.Expectation.{Expectation}
use Rattle.asl_suite_file.specs.declared.expectation.StateCount.{StateCount}
use Rattle.asl_suite_file.specs.declared.expectation.StateCalls.{StateCalls}
use Rattle.asl_suite_file.specs.declared.expectation.WantedText.{WantedText}
use Rattle.asl_suite_file.specs.declared.expectation.WantedText.TheVariants.{Any, Absent, Text}
use Rattle.asl_suite_file.specs.declared.expectation.Wanted.{Wanted}
use Rattle.asl_suite_file.specs.declared.expectation.Wanted.TheVariants as wanted
use Rattle.asl_suite.specs.Doubts.{doubt_on, doubt_of, strict_verdict}
use Rattle.asl_suite.specs.declared.suite.Suite.{Suite}
use Rattle.asl_suite.specs.declared.case_report.Doubt.TheVariants as doubt
use Rattle.asl_suite.specs.declared.case_report.CaseReport.{CaseReport}
use Rattle.asl_suite.specs.declared.case_report.Verdict.{Verdict}
use Rattle.asl_suite.specs.declared.case_report.Verdict.TheVariants as verdict
use Rattle.asl_suite.specs.declared.case_report.Status.{Status}
use Rattle.asl_suite.specs.declared.case_report.Status.TheVariants as status

-- ---- how it ended

abbrev pub status_of : Outcome → Status
status_of Running = status.Unfinished
status_of (Succeeded x) = status.Succeeded
status_of (Failed e) = status.Failed
status_of TimedOut = status.TimedOut

abbrev pub is_wanted : Wanted → Outcome → Bool
is_wanted wanted.Succeeded (Succeeded x) = true
is_wanted wanted.Failed (Failed e) = true
is_wanted wanted.TimedOut TimedOut = true
is_wanted w o = false

abbrev pub has_output : Likeness → Json → Outcome → Bool
has_output l y (Succeeded x) = is_like l (data_of y) (data_of x)
has_output l y _ = false

-- its output is like the one that is wanted, if one is
abbrev pub is_output : Likeness → Option Json → Outcome → Bool
is_output l None o = true
is_output l (Some y) o = has_output l y o

-- ---- the error that it ended in

abbrev pub is_as_wanted : WantedText → Option (List ℕ) → Bool
is_as_wanted Any t = true
is_as_wanted Absent None = true
is_as_wanted Absent (Some t) = false
is_as_wanted (Text w) None = false
is_as_wanted (Text w) (Some t) = bytes_eq w t

abbrev pub is_any : WantedText → Bool
is_any Any = true
is_any Absent = false
is_any (Text w) = false

-- where there is no error output, nothing may be wanted of it
abbrev pub has_error : WantedText → Outcome → Bool
has_error w (Failed e) = is_as_wanted w e.error
has_error w TimedOut = is_as_wanted w timeout_error.error
has_error w Running = is_any w
has_error w (Succeeded x) = is_any w

abbrev pub has_cause : WantedText → Outcome → Bool
has_cause w (Failed e) = is_as_wanted w e.cause
has_cause w TimedOut = is_as_wanted w timeout_error.cause
has_cause w Running = is_any w
has_cause w (Succeeded x) = is_any w

-- ---- how often states were entered, and Tasks invoked their services

abbrev pub enters : List ℕ → Event → Bool
enters n e = is_entered e.kind && bytes_eq e.name n

abbrev pub entries : List ℕ → List Event → ℕ
entries n es = count_by (enters n) es

abbrev pub is_visited : List Event → StateCount → Bool
is_visited es v = nat_eq (entries v.state es) v.count

-- of the states of this definition
abbrev pub invocations : Data → List ℕ → List ℕ → ℕ
invocations d counts n = count_of counts (state_number n d)

abbrev pub is_invoked : Data → List ℕ → StateCount → Bool
is_invoked d counts v = nat_eq (invocations d counts v.state) v.count

-- ---- what Tasks invoked their services with

-- the inputs of a Task's services, in order
abbrev pub inputs_of : List ℕ → List Event → List Data
inputs_of n [] = []
inputs_of n (e ∷ es) =
    if invokes n e then data_of e.body ∷ inputs_of n es else inputs_of n es

abbrev pub is_called : List Event → StateCalls → Bool
is_called es c = same_items (chain c.inputs) (chain (inputs_of c.state es))

-- ---- the verdict

-- by what its states did
abbrev pub verdict_by_states : Data → Expectation → World → Verdict
verdict_by_states d x w =
    if not (list_all (is_visited w.events) x.states.visits) then verdict.Visits
    else if not (list_all (is_invoked d w.counts) x.states.invocations) then verdict.Invocations
    else if not (list_all (is_called w.events) x.states.calls) then verdict.Calls
    else verdict.Passed

-- by what it ended in, where its status is wanted
abbrev pub verdict_by_end : Data → Expectation → World → Verdict
verdict_by_end d x w =
    if not (is_output Same x.end.output w.outcome) then verdict.Output
    else if not (is_output Holding x.end.part w.outcome) then verdict.Match
    else if not (has_error x.end.error w.outcome) then verdict.Error
    else if not (has_cause x.end.cause w.outcome) then verdict.Cause
    else verdict_by_states d x w

-- in the machine of this definition
abbrev pub verdict_on : Data → Expectation → World → Verdict
verdict_on d x w =
    if not (is_over w.outcome) then verdict.Limit
    else if not (is_wanted x.end.status w.outcome) then verdict.Status
    else verdict_by_end d x w

-- what is reported of a world in which it ended, with this case
abbrev pub judged : Data → Expectation → Case → World → CaseReport
judged d x c w = record {
  verdict = verdict_on d x w;
  machine = x.machine;
  case = x.case;
  name = x.name;
  status = status_of w.outcome;
  events = length w.events;
  doubt = doubt_of (verdict_on d x w) (doubt_on x c w);
  search = None;
}

-- where the case isn't in the mock file
abbrev pub no_case : Expectation → CaseReport
no_case x = record {
  verdict = verdict.NoCase;
  machine = x.machine;
  case = x.case;
  name = x.name;
  status = status.None;
  events = 0;
  doubt = doubt.None;
  search = None;
}

-- what its execution begins with; it starts at the moment of its first step, where the test has steps
abbrev pub test_setup : Suite → Expectation → Case → Setup
test_setup s x c = record {
  machine = s.machine;
  name_of_machine = x.machine;
  case = c;
  input = x.input;
  name = name_or_run x.case;
  start = start_of x.steps;
}

-- the same by its case in the mock file; none, where it isn't there
abbrev pub setup_in : Suite → Expectation → Option Setup
setup_in s x = option_map (test_setup s x) (result_ok (case_or_empty s.mocks x.machine x.case))

-- the world behind these steps; without them, behind those that come next, at most so many
abbrev pub world_behind : ℕ → Setup → Option (List StepAt) → World
world_behind limit s ss = world_by limit s (opening s) ss

-- in which the execution of a test ends, with this case
abbrev pub test_world : ℕ → Suite → Expectation → Case → World
test_world limit s x c = world_behind limit (test_setup s x c) x.steps

abbrev pub report_by : ℕ → Suite → Expectation → Result Case CaseFault → CaseReport
report_by limit s x (Err e) = no_case x
report_by limit s x (Ok c) = judged s.machine x c (test_world limit s x c)

abbrev pub report_within : ℕ → Suite → Expectation → CaseReport
report_within limit s x = report_by limit s x (case_or_empty s.mocks x.machine x.case)

-- what is reported of a test; without steps of its own it is driven
abbrev pub report_on : Suite → Expectation → CaseReport
report_on s x = report_within most_steps s x

-- the reports of all tests, in order
abbrev pub reports_of : Suite → List CaseReport
reports_of s = map (report_on s) s.tests.list.items

-- the same where a doubt is a failure
abbrev pub strict_report : CaseReport → CaseReport
strict_report r = record r { verdict = strict_verdict r.doubt r.verdict }
