-- The state table: what a step of each kind does, by what the branch is doing (ASL, "State Types";
-- Developer Guide, "HistoryEvent").
use Rattle.std.specs.Prelude.{ℕ, pos, Bool, true, false, List, [], ◌∷◌, length, Option, Some, None, if◌then◌else◌, Result, Ok, Err, codes, unwrap_or}
use Rattle.std.specs.Str.{bytes_eq}
use Rattle.asl_json_data.specs.Data.{Data, number}
use Rattle.std.specs.Fmt.{signed_decimal}
use Rattle.asl_json.specs.View.{data_of}
use Rattle.asl_json.specs.Meaning.{value_in}
use Rattle.asl_json.specs.declared.value.Json.{Json}
use Rattle.asl_json.specs.declared.value.Json.TheVariants.{Dict, List as ListOf}
use Rattle.asl_def_schema.specs.Claims.{item_count}
use Rattle.asl_history.specs.declared.kind.EventKind.{EventKind}
use Rattle.asl_history.specs.declared.kind.EventKind.TheVariants.{PassStateEntered, PassStateExited, SucceedStateEntered, SucceedStateExited, FailStateEntered, ChoiceStateEntered, ChoiceStateExited, WaitStateEntered, WaitStateExited, TaskStateEntered, TaskStateExited, TaskScheduled, TaskStarted, TaskSucceeded, TaskFailed, ParallelStateEntered, ParallelStateExited, ParallelStateStarted, ParallelStateSucceeded, ParallelStateFailed, MapStateEntered, MapStateStarted, MapStateSucceeded, MapStateFailed, MapStateExited}
use Rattle.asl_def_shared.specs.Texts.{text_in}
use Rattle.asl_def_states.specs.Items.{processor_in, selector_in, member_in}
use Rattle.asl_step.specs.declared.effect.Effect.{Effect}
use Rattle.asl_step.specs.declared.effect.Progress.{Progress}
use Rattle.asl_step.specs.declared.facts.Facts.{Facts}
use Rattle.asl_step.specs.declared.record.ErrorOut.{ErrorOut}
use Rattle.asl_step.specs.Records.{error_name, name_in, uses_in, entering_with, beginning_with, pausing_with}
use Rattle.asl_step.specs.Seen.{Seen}
use Rattle.asl_step.specs.Context.{context_of}
use Rattle.asl_step.specs.Rows.{forking, idle, entering, beginning, telling, unstarted, retrying, pausing, leaving, failing, error_output, is_within_limit, over_limit}
use Rattle.asl_mock.specs.Answers.{answer_to}
use Rattle.asl_mock.specs.declared.response.Answer.{Answer}
use Rattle.asl_mock.specs.declared.response.Answer.TheVariants.{Returns, Throws}
use Rattle.asl_handle.specs.Decisions.{Handling, again, caught, unhandled, handlers_in, decision}
use Rattle.asl_step_io.specs.Paths.{Given, put_into, taken}
use Rattle.asl_step_io.specs.Delay.{seconds_of}
use Rattle.asl_kinds.specs.Members.{next_in, effective, pass_output, passed_on, selected, no_answer, fail_error, GivenTarget, choice_output, GivenMoment, wait_until}
use Rattle.asl_kinds.specs.Forks.{starts_in, ready_at, items_by, iterations, GivenFork, with_items, forked_with, first_error, outputs, gathered}

-- a state without Retry and Catch is left with what it gives, or fails with the error that it
-- raises
abbrev pub passed : Seen → Progress → EventKind → Option (List ℕ) → Given → Effect
passed v done exited next (Ok z) = leaving v done exited next z
passed v done exited next (Err e) = failing v done e

-- a state that is entered with this input, if it is to be entered, and left in the same step
abbrev pub in_one : (Json → Given) → EventKind → EventKind → Option (List ℕ) → Seen → Option Json
    → Effect
in_one gives entered exited next v (Some x) = passed v (entering v entered x) exited next (gives x)
in_one gives entered exited next v None = idle v.current

abbrev pub pass_effect : Data → Facts → Seen → Effect
pass_effect d f v =
    in_one (λ x. pass_output d x (context_of f v)) PassStateEntered PassStateExited (next_in d) v
    (entering_with v.current)

abbrev pub succeed_effect : Data → Facts → Seen → Effect
succeed_effect d f v =
    in_one (λ x. passed_on d x (context_of f v)) SucceedStateEntered SucceedStateExited None v
    (entering_with v.current)

-- what is done with the input of a state that is to be entered
abbrev pub begun : (Json → Effect) → Seen → Option Json → Effect
begun does v (Some x) = does x
begun does v None = idle v.current

abbrev pub fail_effect : Data → Facts → Seen → Effect
fail_effect d f v =
    begun (λ x. failing v (entering v FailStateEntered x)
    (fail_error d (data_of x) (context_of f v))) v (entering_with v.current)

-- a Choice goes on to its target, or fails
abbrev pub decided : Seen → Progress → GivenTarget → Effect
decided v done (Ok g) = leaving v done ChoiceStateExited (Some g.0) g.1
decided v done (Err e) = failing v done e

abbrev pub choice_effect : Data → Facts → Seen → Effect
choice_effect d f v =
    begun (λ x. decided v (entering v ChoiceStateEntered x) (choice_output d x (context_of f v))) v
    (entering_with v.current)

-- a Wait pauses, or fails
abbrev pub waits : Seen → Progress → Json → GivenMoment → Effect
waits v done x (Ok until) = pausing v done x until
waits v done x (Err e) = failing v done e

-- a Wait that is over is left, or fails
abbrev pub wait_over : Data → Facts → Seen → Option Json → Effect
wait_over d f v (Some x) =
    passed v unstarted WaitStateExited (next_in d) (passed_on d x (context_of f v))
wait_over d f v None = idle v.current

abbrev pub wait_with : Data → Facts → Seen → Option Json → Effect
wait_with d f v (Some x) =
    waits v (entering v WaitStateEntered x) x (wait_until d v.moment x (context_of f v))
wait_with d f v None = wait_over d f v (pausing_with v.current)

abbrev pub wait_effect : Data → Facts → Seen → Effect
wait_effect d f v = wait_with d f v (entering_with v.current)

-- ---- errors (ASL, "Retrying after error", "Fallback States")

-- the state is retried; or the catcher puts the error into the raw input and says where to go on;
-- or the branch fails
abbrev pub handled : Option Data → Seen → Progress → EventKind → Json → ErrorOut → Handling → Effect
handled retry v done exited x e (again i until) =
    retrying v done x (item_count (handlers_in retry)) i until
handled retry v done exited x e (caught c) =
    passed v done exited (next_in c) (put_into (value_in (codes "ResultPath") c) x (error_output e))
handled retry v done exited x e unhandled = failing v done e

-- what a state does with an error that it raises, by its Retry and its Catch
abbrev pub raised : Option Data → Option Data → Seen → Progress → EventKind → Json → ErrorOut
    → Effect
raised retry catch v done exited x e =
    handled retry v done exited x e
    (decision retry catch (error_name e) (uses_in v.current) v.moment)

-- a state is left with what it gives, or raises an error; by its Retry, its Catch and its Next
abbrev pub settled : Option Data → Option Data → Option (List ℕ) → Seen → Progress → EventKind
    → Json → Given → Effect
settled retry catch next v done exited x (Ok z) = leaving v done exited next z
settled retry catch next v done exited x (Err e) = raised retry catch v done exited x e

-- ---- Task

-- the service is invoked with this input: the count is raised
abbrev pub invoked : Seen → Progress → Json → Progress
invoked v done y = record {
  children = done.children;
  raises = true;
  events = (telling v (telling v done TaskScheduled y) TaskStarted (Dict [])).events;
}

abbrev pub task_settled : Data → Seen → Progress → Json → Given → Effect
task_settled d v done x g =
    settled (value_in (codes "Retry") d) (value_in (codes "Catch") d) (next_in d) v done
    TaskStateExited x g

-- the service fails with this error
abbrev pub task_fails : Data → Seen → Progress → Json → ErrorOut → Effect
task_fails d v done x e = task_settled d v (telling v done TaskFailed (error_output e)) x (Err e)

abbrev pub task_returns : Data → Data → Seen → Progress → Json → Json → Effect
task_returns d c v done x r = task_settled d v (telling v done TaskSucceeded r) x (selected d x c r)

-- the service answers by the test case
abbrev pub task_answered : Data → Data → Seen → Progress → Json → Option Answer → Effect
task_answered d c v done x (Some (Returns r)) =
    if is_within_limit r then task_returns d c v done x r else task_fails d v done x over_limit
task_answered d c v done x (Some (Throws error cause)) =
    task_fails d v done x (record { error = Some error; cause = cause })
task_answered d c v done x None = task_fails d v done x no_answer

abbrev pub task_with : Data → Data → Seen → Progress → Json → Given → Effect
task_with d c v done x (Ok y) =
    task_answered d c v (invoked v done y) x (answer_to v.case (name_in v.current) v.count)
task_with d c v done x (Err e) = task_settled d v done x (Err e)

abbrev pub task_effect : Data → Facts → Seen → Effect
task_effect d f v =
    begun (λ x. task_with d (context_of f v) v (beginning v TaskStateEntered x) x
    (effective d x (context_of f v))) v (beginning_with v.current)

-- ---- states that fork. The kinds of events are parameters: what is told where the branches
-- succeed, where one fails, and where
-- the state is left

abbrev pub fork_settled : EventKind → Data → Seen → Progress → Json → Given → Effect
fork_settled exited d v done x g =
    settled (value_in (codes "Retry") d) (value_in (codes "Catch") d) (next_in d) v done exited x g

-- a branch has failed: the state raises the branch's error
abbrev pub branch_fails : EventKind → EventKind → Data → Seen → Json → ErrorOut → Effect
branch_fails failed exited d v x e =
    fork_settled exited d v (telling v gathered failed (error_output e)) x (Err e)

-- all branches have ended: the list of their outputs is the state's result
abbrev pub branches_end : EventKind → EventKind → Data → Data → Seen → Json → List Data → Effect
branches_end succeeded exited d c v x ds =
    fork_settled exited d v (telling v gathered succeeded (Dict [])) x (selected d x c (ListOf ds))

-- by the error of the first branch that failed, and by the outputs of all that ended; else the
-- branches go on
abbrev pub joined_by : EventKind → EventKind → EventKind → Data → Data → Seen → Json
    → Option ErrorOut → Option (List Data) → Effect
joined_by succeeded failed exited d c v x (Some e) ds = branch_fails failed exited d v x e
joined_by succeeded failed exited d c v x None (Some ds) = branches_end succeeded exited d c v x ds
joined_by succeeded failed exited d c v x None None = idle v.current

abbrev pub joined : EventKind → EventKind → EventKind → Data → Data → Seen → Json → Effect
joined succeeded failed exited d c v x =
    joined_by succeeded failed exited d c v x (first_error v.children) (outputs v.children)

-- ---- Parallel

-- each branch begins with the effective input; the Parallel keeps its raw input
abbrev pub parallel_forks : Data → Seen → Progress → Json → Given → Effect
parallel_forks d v done x (Ok y) =
    forking v (telling v done ParallelStateStarted (Dict [])) x
    (item_count (handlers_in (value_in (codes "Retry") d))) []
    (ready_at (starts_in (value_in (codes "Branches") d)) y)
parallel_forks d v done x (Err e) = fork_settled ParallelStateExited d v done x (Err e)

abbrev pub parallel_joins : Data → Data → Seen → Option Json → Effect
parallel_joins d c v (Some x) =
    joined ParallelStateSucceeded ParallelStateFailed ParallelStateExited d c v x
parallel_joins d c v None = idle v.current

abbrev pub parallel_with : Data → Data → Seen → Option Json → Effect
parallel_with d c v (Some x) =
    parallel_forks d v (beginning v ParallelStateEntered x) x (effective d x c)
parallel_with d c v None = parallel_joins d c v (forked_with v.current)

abbrev pub parallel_effect : Data → Facts → Seen → Effect
parallel_effect d f v = parallel_with d (context_of f v) v (beginning_with v.current)

-- ---- Map

-- what is told of its start: how many iterations there are
abbrev pub length_body : List Data → Json
length_body ds = Dict ((codes "length", number (signed_decimal (pos (length ds)))) ∷ [])

-- the state that each iteration begins at
abbrev pub iteration_start : Option Data → List ℕ
iteration_start machine = unwrap_or (text_in (member_in (codes "StartAt") machine)) []

-- by the effective input y and its items, with the template that makes inputs of them
abbrev pub fork_over : Option Data → List ℕ → Facts → Seen → Json → Result (List Data) ErrorOut
    → GivenFork
fork_over t start f v y (Ok ds) = with_items ds (iterations start t y f v 0 ds)
fork_over t start f v y (Err e) = Err e

-- the items are what ItemsPath takes of the effective input
abbrev pub fork_by : Option Data → Option Data → List ℕ → Facts → Seen → Given → GivenFork
fork_by items t start f v (Ok y) =
    fork_over t start f v y (items_by (taken (codes "ItemsPath") items y (context_of f v)))
fork_by items t start f v (Err e) = Err e

-- the effective input is what InputPath takes
abbrev pub fork_with : Option Data → Option Data → Option Data → List ℕ → Facts → Seen → Json
    → GivenFork
fork_with input items t start f v x =
    fork_by items t start f v (taken (codes "InputPath") input x (context_of f v))

abbrev pub fork_of : Data → Facts → Seen → Json → GivenFork
fork_of d f v x =
    fork_with (value_in (codes "InputPath") d) (value_in (codes "ItemsPath") d) (selector_in d)
    (iteration_start (processor_in d)) f v x

-- the Map keeps its raw input and the items
abbrev pub map_forks : Data → Seen → Progress → Json → GivenFork → Effect
map_forks d v done x (Ok g) =
    forking v (telling v done MapStateStarted (length_body g.0)) x
    (item_count (handlers_in (value_in (codes "Retry") d))) g.0 g.1
map_forks d v done x (Err e) = fork_settled MapStateExited d v done x (Err e)

abbrev pub map_joins : Data → Data → Seen → Option Json → Effect
map_joins d c v (Some x) = joined MapStateSucceeded MapStateFailed MapStateExited d c v x
map_joins d c v None = idle v.current

abbrev pub map_with : Data → Facts → Seen → Option Json → Effect
map_with d f v (Some x) = map_forks d v (beginning v MapStateEntered x) x (fork_of d f v x)
map_with d f v None = map_joins d (context_of f v) v (forked_with v.current)

abbrev pub map_effect : Data → Facts → Seen → Effect
map_effect d f v = map_with d f v (beginning_with v.current)

-- ---- a state of any type

-- by the type of the state; nothing where there is no such type
abbrev pub effect_by_type : Option (List ℕ) → Data → Facts → Seen → Effect
effect_by_type (Some t) d f v =
    if bytes_eq t (codes "Pass") then pass_effect d f v
    else if bytes_eq t (codes "Succeed") then succeed_effect d f v
    else if bytes_eq t (codes "Fail") then fail_effect d f v
    else if bytes_eq t (codes "Choice") then choice_effect d f v
    else if bytes_eq t (codes "Wait") then wait_effect d f v
    else if bytes_eq t (codes "Task") then task_effect d f v
    else if bytes_eq t (codes "Parallel") then parallel_effect d f v
    else if bytes_eq t (codes "Map") then map_effect d f v
    else idle v.current
effect_by_type None d f v = idle v.current

-- what a step of the state of this object does
abbrev pub state_effect : Data → Facts → Seen → Effect
state_effect d f v = effect_by_type (text_in (value_in (codes "Type") d)) d f v

-- whether the state of this object invokes a service
abbrev pub is_invoking_type : Option (List ℕ) → Bool
is_invoking_type (Some t) = bytes_eq t (codes "Task")
is_invoking_type None = false

abbrev pub invokes : Data → Bool
invokes d = is_invoking_type (text_in (value_in (codes "Type") d))

-- ---- how many iterations of a Map run at once

abbrev pub limit_in : Option Data → ℕ
limit_in None = 0
limit_in (Some d) = unwrap_or (seconds_of d) 0

abbrev pub slots_by_type : Option (List ℕ) → Data → ℕ
slots_by_type None d = 0
slots_by_type (Some t) d =
    if bytes_eq t (codes "Map") then limit_in (value_in (codes "MaxConcurrency") d) else 0

-- its MaxConcurrency; 0, where there is no limit, and for a state of another type
abbrev pub slots : Data → ℕ
slots d = slots_by_type (text_in (value_in (codes "Type") d)) d
