-- What a step tells and does where data of its state can't be made (ASL, "Input and Output Processing", "Errors").
use Rattle.std.specs.Prelude.{◌≡◌, ℕ, List, ◌++◌, Bool, true, false, Option, Some, None, if◌then◌else◌, Ok, Err, codes}
use Rattle.std.specs.List.{All}
use Rattle.asl_json_data.specs.Data.{Data}
use Rattle.asl_json.specs.Meaning.{value_in}
use Rattle.asl_json.specs.declared.value.Json.{Json}
use Rattle.asl_def_shared.specs.Texts.{text_in}
use Rattle.asl_history.specs.declared.kind.EventKind.{EventKind}
use Rattle.asl_history.specs.declared.kind.EventKind.TheVariants.{TaskScheduled, TaskStarted, TaskSucceeded, TaskFailed, ParallelStateStarted, ParallelStateSucceeded, ParallelStateFailed, MapStateStarted, MapStateSucceeded, MapStateFailed}
use Rattle.asl_step.specs.declared.effect.Children.TheVariants.{Kept}
use Rattle.asl_step.specs.declared.effect.Draft.{Draft}
use Rattle.asl_step.specs.declared.effect.Effect.{Effect}
use Rattle.asl_step.specs.declared.facts.Facts.{Facts}
use Rattle.asl_step.specs.declared.record.ErrorOut.{ErrorOut}
use Rattle.asl_step.specs.Context.{context_of}
use Rattle.asl_step.specs.Rows.{unstarted, failing, is_within_limit, over_limit}
use Rattle.asl_step.specs.Seen.{Seen}
use Rattle.asl_step_io.specs.Paths.{Given, taken}
use Rattle.asl_kinds.specs.Members.{GivenTarget, choice_output, GivenMoment, wait_until}
use Rattle.asl_kinds.specs.Table.{raised}

-- the object is that of a state of this type
abbrev pub IsOf : List ℕ → Data → Type 0
IsOf type d = text_in (value_in (codes "Type") d) ≡ Some type

-- ---- what becomes of an error, by itself

-- "When a state reports an error, the default course of action for the interpreter is to fail the
-- whole state machine."
abbrev pub error_failing : Seen → ErrorOut → Effect
error_failing v e = failing v unstarted e

-- A Task, a Parallel or a Map is retried, or a catcher says where to go on, or the branch fails; of
-- the raw input x. How it tells that it is left is a parameter.
abbrev pub error_handled : EventKind → Data → Seen → Json → ErrorOut → Effect
error_handled exited d v x e =
    raised (value_in (codes "Retry") d) (value_in (codes "Catch") d) v unstarted exited x e

-- ---- what a step makes of it

-- Behind these events the step tells what is told of the error, and nothing else; what the branch is
-- doing then, and the outcome, are what becomes of the error.
pub record TellsFirst (front : List Draft) (error step : Effect) : Type 0 where
  pub events : step.events ≡ front ++ error.events
  pub after : step.after ≡ error.after
  pub outcome : step.outcome ≡ error.outcome

-- the event tells of a service or of branches that a state waits for
abbrev pub is_of_work : EventKind → Bool
is_of_work TaskScheduled = true
is_of_work TaskStarted = true
is_of_work TaskSucceeded = true
is_of_work TaskFailed = true
is_of_work ParallelStateStarted = true
is_of_work ParallelStateSucceeded = true
is_of_work ParallelStateFailed = true
is_of_work MapStateStarted = true
is_of_work MapStateSucceeded = true
is_of_work MapStateFailed = true
is_of_work kind = false

-- No event tells of a service or of branches, no invocation is counted, and no branch is made or
-- taken away.
pub record InvokesNothing (step : Effect) : Type 0 where
  pub told : All (λ (e : Draft). is_of_work e.kind ≡ false) step.events
  pub count : step.raises ≡ false
  pub branches : step.children ≡ Kept

-- ---- what states make of the raw input x before they do their work

-- with the Context Object of the step
abbrev pub in_context : {A : Type 0} → (Data → Json → Data → A) → Data → Facts → Seen → Json → A
in_context makes d f v x = makes d x (context_of f v)

-- what InputPath takes
abbrev pub selected_input : Data → Json → Data → Given
selected_input d x c = taken (codes "InputPath") (value_in (codes "InputPath") d) x c

-- until when a Wait waits, of that
abbrev pub waits_until : Data → Facts → Seen → Json → GivenMoment
waits_until d f v x = wait_until d v.moment x (context_of f v)

-- ---- and what they are left with

-- what a Choice goes on with
abbrev pub data_of_target : GivenTarget → Given
data_of_target (Ok g) = Ok g.1
data_of_target (Err e) = Err e

abbrev pub choice_data : Data → Json → Data → Given
choice_data d x c = data_of_target (choice_output d x c)

-- why a state can't be left so: the error of the member that can't be applied, or the data limit
abbrev pub placing_error : Given → Option ErrorOut
placing_error (Err e) = Some e
placing_error (Ok z) = if is_within_limit z then None else Some over_limit
