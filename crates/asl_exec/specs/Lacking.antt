-- The invocation without an answer that an execution failed for. (Step Functions Developer Guide,
-- "HistoryEvent": previousEventId.)
use Rattle.std.specs.Prelude.{ℕ, zero, suc, ◌-◌, ◌^◌, ◌≡◌, Bool, true, false, not, ◌&&◌, nat_lt, if◌then◌else◌, List, length, take, Option, Some, None, is_some, option_map, count_by, slice_get}
use Rattle.std.specs.Option.{option_and_then}
use Rattle.asl_json.specs.Same.{bytes_eq}
use Rattle.asl_json_data.specs.Data.{Data}
use Rattle.asl_json.specs.Meaning.{same}
use Rattle.asl_json.specs.View.{data_of}
use Rattle.asl_history.specs.declared.event.Event.{Event}
use Rattle.asl_history.specs.declared.kind.EventKind.{EventKind}
use Rattle.asl_history.specs.declared.kind.EventKind.TheVariants.{ExecutionFailed, TaskScheduled, TaskFailed, ParallelStateFailed, MapStateFailed, MapIterationFailed}
use Rattle.asl_mock.specs.Answers.{Case, answer_to}
use Rattle.asl_run_input.specs.declared.setup.Setup.{Setup}
use Rattle.asl_run_input.specs.declared.step_at.StepAt.{StepAt}
use Rattle.asl_run_input.specs.Emulations.{Texts, Accepts}
use Rattle.asl_run_state.specs.World.{World}
use Rattle.asl_run_state.specs.declared.outcome.Outcome.{Outcome}
use Rattle.asl_run_state.specs.declared.outcome.Outcome.TheVariants.{Failed}
use Rattle.asl_exec.specs.RunText.{world_by}
use Rattle.asl_exec.specs.Steps.{opening}
use Rattle.asl_exec.specs.declared.lacking.Invocation.{Invocation}

-- ---- the failure that an outcome stands for

abbrev pub is_task_failure : EventKind → Bool
is_task_failure TaskFailed = true
is_task_failure k = false

-- a service failed with this error output
abbrev pub is_failed_with : Data → Event → Bool
is_failed_with d e = is_task_failure e.kind && same (data_of e.body) d

-- what has failed here failed before in a branch below, or in the state itself
abbrev pub is_handed_up : EventKind → Bool
is_handed_up ExecutionFailed = true
is_handed_up ParallelStateFailed = true
is_handed_up MapStateFailed = true
is_handed_up MapIterationFailed = true
is_handed_up k = false

-- the event of this number
abbrev pub event_of : ℕ → List Event → Option Event
event_of id es = slice_get es (id - 1)

-- from the event of this number back along at most so many previous events: where a service failed
-- with this error output
abbrev pub failed_task : ℕ → Data → ℕ → List Event → Option Event
failed_task zero d id es = None
failed_task (suc n) d id es =
    option_and_then (λ (e : Event). if is_failed_with d e then Some e
    else if is_handed_up e.kind then failed_task n d e.previous es else None)
    (event_of id es)

-- the failed service whose error output is that of the last event
abbrev pub failure_behind : List Event → Option Event
failure_behind es =
    option_and_then (λ (e : Event). failed_task (length es) (data_of e.body) e.id es)
    (event_of (length es) es)

-- ---- the invocation, and whether it is answered

abbrev pub is_scheduled : EventKind → Bool
is_scheduled TaskScheduled = true
is_scheduled k = false

abbrev pub invokes : List ℕ → Event → Bool
invokes n e = is_scheduled e.kind && bytes_eq e.name n

-- the last invocation of this state among these events
abbrev pub last_invocation : List ℕ → List Event → Invocation
last_invocation n es = record { state = n; number = count_by (invokes n) es - 1 }

-- the one that failed with this event
abbrev pub invocation_of : List Event → Event → Invocation
invocation_of es e = last_invocation e.name (take e.id es)

abbrev pub is_unanswered : Case → Invocation → Bool
is_unanswered c v = nat_lt v.number (2 ^ 32) && not (is_some (answer_to c v.state v.number))

abbrev pub if_unanswered : Case → Invocation → Option Invocation
if_unanswered c v = if is_unanswered c v then Some v else None

-- of an execution that failed with the failure of an invocation, which its test case doesn't answer:
-- this invocation
abbrev pub unanswered : Case → List Event → Outcome → Option Invocation
unanswered c es (Failed e) =
    option_and_then (if_unanswered c) (option_map (invocation_of es) (failure_behind es))
unanswered c es o = None

abbrev pub unanswered_in : Case → World → Option Invocation
unanswered_in c w = unanswered c w.events w.outcome

-- of the run that the texts spell; where no file names steps, those that come next are taken, at most
-- so many
pub record IsLackingIn (t : Texts) (limit : ℕ) (lacking : Option Invocation) : Type 0 where
  pub setup : Setup
  pub steps : Option (List StepAt)
  pub accepted : Accepts t setup steps
  pub lacking_is : lacking ≡ unanswered_in setup.case (world_by limit setup (opening setup) steps)
