-- A state that is entered tells of it, whatever its kind.
use Rattle.std.specs.Prelude.{ℕ, Bool, true, false, ◌<◌, List, [], ◌∷◌, ◌++◌, length, ◌≡◌, Option, Some, None, if◌then◌else◌, Result, Ok, Err, codes, refl, IsSome}
use Rattle.std.proofs.Common.{arith, ap, sym, ◌∙◌, length-append}
use Rattle.asl_json_data.specs.Data.{Data}
use Rattle.asl_json.specs.Meaning.{value_in}
use Rattle.asl_json.specs.declared.value.Json.{Json}
use Rattle.asl_json.specs.declared.value.Json.TheVariants.{Dict}
use Rattle.asl_history.specs.declared.kind.EventKind.{EventKind}
use Rattle.asl_history.specs.declared.kind.EventKind.TheVariants.{PassStateEntered, PassStateExited, SucceedStateEntered, SucceedStateExited, FailStateEntered, ChoiceStateEntered, ChoiceStateExited, WaitStateEntered, TaskStateEntered, TaskStateExited, TaskScheduled, TaskStarted, TaskSucceeded, TaskFailed, ParallelStateEntered, ParallelStateStarted, ParallelStateExited, MapStateEntered, MapStateStarted, MapStateExited}
use Rattle.asl_def_states.specs.declared.state.State.{State}
use Rattle.asl_def_states.specs.declared.state.State.TheVariants as state
use Rattle.asl_def_states.specs.Show.{state_of}
use Rattle.asl_step.specs.declared.effect.Effect.{Effect}
use Rattle.asl_step.specs.declared.effect.Progress.{Progress}
use Rattle.asl_step.specs.declared.effect.Draft.{Draft}
use Rattle.asl_step.specs.declared.facts.Facts.{Facts}
use Rattle.asl_step.specs.declared.record.ErrorOut.{ErrorOut}
use Rattle.asl_step.specs.declared.record.Record.{Record}
use Rattle.asl_step.specs.declared.record.Record.TheVariants.{New, Ready, Pausing, Again, Forked, Done, Failed}
use Rattle.asl_step.specs.Records.{name_in, uses_in, entering_with, beginning_with, error_name}
use Rattle.asl_step.specs.Seen.{Seen}
use Rattle.asl_step.specs.Context.{context_of}
use Rattle.asl_step.specs.Rows.{leaving, left, failing, entering, beginning, beginning_by, telling, is_within_limit, over_limit, error_output}
use Rattle.asl_mock.specs.Answers.{answer_to}
use Rattle.asl_mock.specs.declared.response.Answer.{Answer}
use Rattle.asl_mock.specs.declared.response.Answer.TheVariants.{Returns, Throws}
use Rattle.asl_handle.specs.Decisions.{Handling, again, caught, unhandled, decision}
use Rattle.asl_step_io.specs.Paths.{Given, put_into}
use Rattle.asl_kinds.specs.Members.{next_in, effective, pass_output, passed_on, selected, no_answer, fail_error, GivenTarget, choice_output, GivenMoment, wait_until}
use Rattle.asl_kinds.specs.Forks.{GivenFork}
use Rattle.asl_json.specs.View.{data_of}
use Rattle.asl_kinds.specs.Entering.{IsTold, IsEntering}
use Rattle.asl_kinds.specs.Table.{begun, wait_with, parallel_with, map_with, length_body, map_forks, map_effect, fork_of, passed, in_one, pass_effect, succeed_effect, fail_effect, decided, choice_effect, waits, wait_effect, handled, settled, invoked, task_returns, task_fails, task_answered, task_with, task_effect, parallel_forks, parallel_effect, state_effect}

-- something was told before
abbrev pub HasTold : Progress → Type 0
HasTold done = 0 < length done.events

chosen-told : (b : Bool) (e f : Effect) → IsTold e → IsTold f → IsTold (if b then e else f)
chosen-told true e f h g = h
chosen-told false e f h g = g

failing-told : (v : Seen) (done : Progress) (e : ErrorOut) → HasTold done
    → IsTold (failing v done e)
failing-told v done e h = omega (arith, length-append {A = Draft}, h)

leaving-told : (v : Seen) (done : Progress) (exited : EventKind) (next : Option (List ℕ)) (x : Json)
    → HasTold done → IsTold (leaving v done exited next x)
leaving-told v done exited next x h =
    chosen-told (is_within_limit x) (left v done exited next x) (failing v done over_limit) (omega (arith, length-append {A = Draft}, h))
    (failing-told v done over_limit h)

entering-told : (v : Seen) (entered : EventKind) (x : Json) → HasTold (entering v entered x)
entering-told v entered x = omega (arith, length-append {A = Draft})

telling-told : (v : Seen) (done : Progress) (kind : EventKind) (body : Json)
    → HasTold (telling v done kind body)
telling-told v done kind body = omega (arith, length-append {A = Draft})

passed-told : (v : Seen) (done : Progress) (exited : EventKind) (next : Option (List ℕ)) (g : Given)
    → HasTold done → IsTold (passed v done exited next g)
passed-told v done exited next (Ok z) h = leaving-told v done exited next z h
passed-told v done exited next (Err e) h = failing-told v done e h

handled-told : (retry : Option Data) (v : Seen) (done : Progress) (exited : EventKind) (x : Json)
    (e : ErrorOut) (g : Handling) → HasTold done → IsTold (handled retry v done exited x e g)
handled-told retry v done exited x e (again i until) h = h
handled-told retry v done exited x e (caught c) h =
    passed-told v done exited (next_in c)
    (put_into (value_in (codes "ResultPath") c) x (error_output e)) h
handled-told retry v done exited x e unhandled h = failing-told v done e h

settled-told : (retry catch : Option Data) (next : Option (List ℕ)) (v : Seen) (done : Progress)
    (exited : EventKind) (x : Json) (g : Given) → HasTold done
    → IsTold (settled retry catch next v done exited x g)
settled-told retry catch next v done exited x (Ok z) h = leaving-told v done exited next z h
settled-told retry catch next v done exited x (Err e) h =
    handled-told retry v done exited x e
    (decision retry catch (error_name e) (uses_in v.current) v.moment) h

-- ---- the kinds, at a state that is to be entered

entered-told : (r : Record) (f : Option Json → Effect) → IsEntering r
    → ((x : Json) → IsTold (f (Some x))) → IsTold (f (entering_with r))
entered-told (New n x) f is each = each x
entered-told (Ready n x) f is each = each x
entered-told (Pausing n x since until) f is each = absurd (cc)
entered-told (Again n x since uses until) f is each = absurd (cc)
entered-told (Forked n x since uses items) f is each = absurd (cc)
entered-told (Done x) f is each = absurd (cc)
entered-told (Failed e) f is each = absurd (cc)

begun-told : (r : Record) (f : Option Json → Effect) → IsEntering r
    → ((x : Json) → IsTold (f (Some x))) → IsTold (f (beginning_with r))
begun-told (New n x) f is each = each x
begun-told (Ready n x) f is each = each x
begun-told (Pausing n x since until) f is each = absurd (cc)
begun-told (Again n x since uses until) f is each = absurd (cc)
begun-told (Forked n x since uses items) f is each = absurd (cc)
begun-told (Done x) f is each = absurd (cc)
begun-told (Failed e) f is each = absurd (cc)

beginning-told : (v : Seen) (entered : EventKind) (x : Json) (r : Record) → IsEntering r
    → HasTold (beginning_by v entered x r)
beginning-told v entered x (New n y) is = entering-told v entered x
beginning-told v entered x (Ready n y) is = entering-told v entered x
beginning-told v entered x (Pausing n y since until) is = absurd (cc)
beginning-told v entered x (Again n y since uses until) is = absurd (cc)
beginning-told v entered x (Forked n y since uses items) is = absurd (cc)
beginning-told v entered x (Done y) is = absurd (cc)
beginning-told v entered x (Failed e) is = absurd (cc)

pub pass-told : (d : Data) (f : Facts) (v : Seen) → IsEntering v.current
    → IsTold (pass_effect d f v)
pass-told d f v is =
    entered-told v.current
    (in_one (λ x. pass_output d x (context_of f v)) PassStateEntered PassStateExited (next_in d) v)
    is (λ x. passed-told v (entering v PassStateEntered x) PassStateExited (next_in d)
    (pass_output d x (context_of f v)) (entering-told v PassStateEntered x))

pub succeed-told : (d : Data) (f : Facts) (v : Seen) → IsEntering v.current
    → IsTold (succeed_effect d f v)
succeed-told d f v is =
    entered-told v.current
    (in_one (λ x. passed_on d x (context_of f v)) SucceedStateEntered SucceedStateExited None v)
    is (λ x. passed-told v (entering v SucceedStateEntered x) SucceedStateExited None
    (passed_on d x (context_of f v)) (entering-told v SucceedStateEntered x))

pub fail-told : (d : Data) (f : Facts) (v : Seen) → IsEntering v.current
    → IsTold (fail_effect d f v)
fail-told d f v is =
    entered-told v.current
    (begun (λ x. failing v (entering v FailStateEntered x)
    (fail_error d (data_of x) (context_of f v))) v) is
    (λ x. failing-told v (entering v FailStateEntered x) (fail_error d (data_of x) (context_of f v))
    (entering-told v FailStateEntered x))

decided-told : (v : Seen) (done : Progress) (g : GivenTarget) → HasTold done
    → IsTold (decided v done g)
decided-told v done (Ok g) h = leaving-told v done ChoiceStateExited (Some g.0) g.1 h
decided-told v done (Err e) h = failing-told v done e h

pub choice-told : (d : Data) (f : Facts) (v : Seen) → IsEntering v.current
    → IsTold (choice_effect d f v)
choice-told d f v is =
    entered-told v.current
    (begun (λ x. decided v (entering v ChoiceStateEntered x) (choice_output d x (context_of f v)))
    v) is (λ x. decided-told v (entering v ChoiceStateEntered x)
    (choice_output d x (context_of f v)) (entering-told v ChoiceStateEntered x))

waits-told : (v : Seen) (done : Progress) (x : Json) (g : GivenMoment) → HasTold done
    → IsTold (waits v done x g)
waits-told v done x (Ok until) h = h
waits-told v done x (Err e) h = failing-told v done e h

pub wait-told : (d : Data) (f : Facts) (v : Seen) → IsEntering v.current
    → IsTold (wait_effect d f v)
wait-told d f v is =
    entered-told v.current (wait_with d f v) is (λ x. waits-told v (entering v WaitStateEntered x) x
    (wait_until d v.moment x (context_of f v)) (entering-told v WaitStateEntered x))

answered-told : (d c : Data) (v : Seen) (done : Progress) (x : Json) (o : Option Answer)
    → IsTold (task_answered d c v done x o)
answered-told d c v done x (Some (Returns r)) =
    chosen-told (is_within_limit r) (task_returns d c v done x r) (task_fails d v done x over_limit)
    (settled-told (value_in (codes "Retry") d) (value_in (codes "Catch") d) (next_in d) v (telling v done TaskSucceeded r) TaskStateExited x (selected d x c r)
    (telling-told v done TaskSucceeded r))
    (settled-told (value_in (codes "Retry") d) (value_in (codes "Catch") d) (next_in d) v (telling v done TaskFailed (error_output over_limit)) TaskStateExited x
    (Err over_limit) (telling-told v done TaskFailed (error_output over_limit)))
answered-told d c v done x (Some (Throws error cause)) =
    settled-told (value_in (codes "Retry") d) (value_in (codes "Catch") d) (next_in d) v
    (telling v done TaskFailed (error_output (record { error = Some error; cause = cause }))) TaskStateExited x
    (Err (record { error = Some error; cause = cause }))
    (telling-told v done TaskFailed (error_output (record { error = Some error; cause = cause })))
answered-told d c v done x None =
    settled-told (value_in (codes "Retry") d) (value_in (codes "Catch") d) (next_in d) v
    (telling v done TaskFailed (error_output no_answer)) TaskStateExited x (Err no_answer)
    (telling-told v done TaskFailed (error_output no_answer))

task_with-told : (d c : Data) (v : Seen) (done : Progress) (x : Json) (g : Given) → HasTold done
    → IsTold (task_with d c v done x g)
task_with-told d c v done x (Ok y) h =
    answered-told d c v (invoked v done y) x (answer_to v.case (name_in v.current) v.count)
task_with-told d c v done x (Err e) h = settled-told (value_in (codes "Retry") d) (value_in (codes "Catch") d) (next_in d) v done TaskStateExited x (Err e) h

pub task-told : (d : Data) (f : Facts) (v : Seen) → IsEntering v.current
    → IsTold (task_effect d f v)
task-told d f v is =
    begun-told v.current
    (begun (λ x. task_with d (context_of f v) v (beginning v TaskStateEntered x) x
    (effective d x (context_of f v))) v) is (λ x. task_with-told d (context_of f v) v
    (beginning v TaskStateEntered x) x (effective d x (context_of f v))
    (beginning-told v TaskStateEntered x v.current is))

parallel_forks-told : (d : Data) (v : Seen) (done : Progress) (x : Json) (g : Given) → HasTold done
    → IsTold (parallel_forks d v done x g)
parallel_forks-told d v done x (Ok y) h = telling-told v done ParallelStateStarted (Dict [])
parallel_forks-told d v done x (Err e) h = settled-told (value_in (codes "Retry") d) (value_in (codes "Catch") d) (next_in d) v done ParallelStateExited x (Err e) h

pub parallel-told : (d : Data) (f : Facts) (v : Seen) → IsEntering v.current
    → IsTold (parallel_effect d f v)
parallel-told d f v is =
    begun-told v.current (parallel_with d (context_of f v) v) is (λ x. parallel_forks-told d v (beginning v ParallelStateEntered x) x
    (effective d x (context_of f v)) (beginning-told v ParallelStateEntered x v.current is))

map_forks-told : (d : Data) (v : Seen) (done : Progress) (x : Json) (g : GivenFork) → HasTold done
    → IsTold (map_forks d v done x g)
map_forks-told d v done x (Ok g) h = telling-told v done MapStateStarted (length_body g.0)
map_forks-told d v done x (Err e) h = settled-told (value_in (codes "Retry") d) (value_in (codes "Catch") d) (next_in d) v done MapStateExited x (Err e) h

pub map-told : (d : Data) (f : Facts) (v : Seen) → IsEntering v.current → IsTold (map_effect d f v)
map-told d f v is =
    begun-told v.current (map_with d f v) is (λ x. map_forks-told d v (beginning v MapStateEntered x) x
    (fork_of d f v x) (beginning-told v MapStateEntered x v.current is))

-- ---- a state of any type

pub state-told : (s : State) (f : Facts) (v : Seen) → IsEntering v.current
    → IsTold (state_effect (state_of [] s) f v)
state-told (state.Pass x) f v is = pass-told (state_of [] (state.Pass x)) f v is
state-told (state.Succeed x) f v is = succeed-told (state_of [] (state.Succeed x)) f v is
state-told (state.Fail x) f v is = fail-told (state_of [] (state.Fail x)) f v is
state-told (state.Choice x) f v is = choice-told (state_of [] (state.Choice x)) f v is
state-told (state.Wait x) f v is = wait-told (state_of [] (state.Wait x)) f v is
state-told (state.Task x) f v is = task-told (state_of [] (state.Task x)) f v is
state-told (state.Parallel x) f v is = parallel-told (state_of [] (state.Parallel x)) f v is
state-told (state.Map x) f v is = map-told (state_of [] (state.Map x)) f v is
