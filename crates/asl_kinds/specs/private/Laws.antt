-- The laws that each kind keeps.
use Rattle.std.specs.Prelude.{ℕ, Bool, true, false, ◌<◌, ◌≤◌, List, [], ◌∷◌, map, length, ◌≡◌, Option, Some, None, if◌then◌else◌, Result, Ok, Err, IfOk, codes, refl, unwrap_or}
use Rattle.std.proofs.Common.{arith, ap, subst, sym, ◌∙◌, length-append}
use Rattle.std.specs.Option.{option_or}
use Rattle.std.specs.Str.{bytes_eq}
use Rattle.asl_json_data.specs.Data.{Data, text, list, chain}
use Rattle.asl_json.specs.View.{data_of}
use Rattle.asl_json.specs.Meaning.{value_in}
use Rattle.asl_json.specs.declared.value.Json.{Json}
use Rattle.asl_json.specs.declared.value.Json.TheVariants.{Dict, List as ListOf}
use Rattle.asl_intrinsic_functions.proofs.Converting.{list_back}
use Rattle.asl_def_schema.specs.Canon.{Named}
use Rattle.asl_def_schema.specs.Members.{is_among}
use Rattle.asl_history.specs.declared.kind.EventKind.{EventKind}
use Rattle.asl_history.specs.declared.kind.EventKind.TheVariants.{PassStateEntered, PassStateExited, SucceedStateEntered, SucceedStateExited, FailStateEntered, ChoiceStateEntered, ChoiceStateExited, WaitStateEntered, WaitStateExited, TaskStateEntered, TaskStateExited, TaskSucceeded, TaskFailed, ParallelStateEntered, ParallelStateExited, ParallelStateStarted, ParallelStateSucceeded, ParallelStateFailed, MapStateEntered, MapStateStarted, MapStateSucceeded, MapStateFailed, MapStateExited}
use Rattle.asl_def_shared.specs.Texts.{text_in}
use Rattle.asl_def_shared.specs.declared.body.Body.{Body}
use Rattle.asl_def_shared.specs.Bodies.{body_members, body_of, bodies_of}
use Rattle.asl_def_shared.specs.Member.{completion_names}
use Rattle.asl_def_shared.proofs.Names.{named}
use Rattle.asl_def_shared.proofs.Owning.{tied}
use Rattle.asl_def_states.specs.declared.state.State.{State}
use Rattle.asl_def_states.specs.declared.state.State.TheVariants as state
use Rattle.asl_def_states.specs.declared.parallel.Parallel.{Parallel}
use Rattle.asl_def_states.specs.declared.map.Map.{Map}
use Rattle.asl_def_states.specs.Items.{processor_in}
use Rattle.asl_def_states.specs.Show.{parallel_members, parallel_object, map_members, map_object, body_in, state_of}
use Rattle.asl_def_states.proofs.Items.{machine_of}
use Rattle.asl_step.specs.declared.effect.Effect.{Effect}
use Rattle.asl_step.specs.declared.effect.Progress.{Progress}
use Rattle.asl_step.specs.declared.facts.Facts.{Facts}
use Rattle.asl_step.specs.declared.effect.Draft.{Draft}
use Rattle.asl_step.specs.declared.record.ErrorOut.{ErrorOut}
use Rattle.asl_step.specs.declared.record.Record.{Record}
use Rattle.asl_step.specs.declared.record.Record.TheVariants.{New, Ready, Pausing, Again, Forked, Done, Failed}
use Rattle.asl_step.specs.Records.{name_in, uses_in, entering_with, beginning_with, pausing_with, error_name}
use Rattle.asl_step.specs.Seen.{Seen}
use Rattle.asl_step.specs.Context.{context_of}
use Rattle.asl_step.specs.Bounds.{is_forked, AreFew, IsBounded}
use Rattle.asl_step.specs.Rows.{forking, idle, leaving, failing, pausing, retrying, entering, beginning_by, beginning, telling, unstarted, error_output, is_within_limit, over_limit}
use Rattle.asl_step.specs.private.Laws.{IsSoFar, chosen-bounded, leaving-bounded, failing-bounded, pausing-bounded, retrying-bounded, entering-so-far, unstarted-so-far, beginning-so-far, beginning-short, beginning-kept, idle-bounded, few-unforked}
use Rattle.asl_def_schema.specs.Claims.{item_count}
use Rattle.asl_mock.specs.Answers.{answer_to}
use Rattle.asl_mock.specs.declared.response.Answer.{Answer}
use Rattle.asl_mock.specs.declared.response.Answer.TheVariants.{Returns, Throws}
use Rattle.asl_handle.specs.Decisions.{Handling, again, caught, unhandled, handlers_in, decision}
use Rattle.asl_step_io.specs.Paths.{Given, put_into}
use Rattle.asl_kinds.specs.Members.{next_in, effective_by, effective, pass_output, passed_on, selected_by, selected, no_answer, fail_error, GivenTarget, choice_output, GivenMoment, wait_until}
use Rattle.asl_kinds.specs.Forks.{start_in, GivenFork, starts_in, ready_at, forked_with, first_error, outputs, gathered}
use Rattle.asl_kinds.specs.Table.{length_body, iteration_start, fork_with, fork_of, map_forks, map_joins, map_with, map_effect, limit_in, slots, passed, in_one, pass_effect, succeed_effect, fail_effect, begun, decided, choice_effect, waits, wait_over, wait_with, wait_effect, handled, settled, invoked, task_fails, task_returns, task_answered, task_with, task_effect, fork_settled, joined_by, joined, parallel_forks, parallel_joins, parallel_with, parallel_effect, effect_by_type, state_effect, is_invoking_type, invokes}

-- the bounds of an effect, and that it doesn't make too many children
pub record IsLawful (v : Seen) (invoking : Bool) (e : Effect) : Type 0 where
  pub bounds : IsBounded v invoking e
  pub fits : AreFew e.children

chosen-lawful : (b : Bool) (v : Seen) (invoking : Bool) (e f : Effect) → IsLawful v invoking e
    → IsLawful v invoking f → IsLawful v invoking (if b then e else f)
chosen-lawful true v invoking e f h g = h
chosen-lawful false v invoking e f h g = g

idle-lawful : (v : Seen) (invoking : Bool) → IsLawful v invoking (idle v.current)
idle-lawful v invoking = record { bounds = idle-bounded v invoking v.current refl; fits = tt }

failing-lawful : (v : Seen) (invoking : Bool) (done : Progress) (e : ErrorOut)
    → IsSoFar invoking done → IsLawful v invoking (failing v done e)
failing-lawful v invoking done e so =
    record {
      bounds = failing-bounded v invoking done e so;
      fits = few-unforked done.children
          so.unforked;
    }

chosen-few : (b : Bool) (e f : Effect) → AreFew e.children → AreFew f.children
    → AreFew (if b then e else f).children
chosen-few true e f h g = h
chosen-few false e f h g = g

leaving-lawful : (v : Seen) (invoking : Bool) (done : Progress) (exited : EventKind)
    (next : Option (List ℕ)) (x : Json) → IsSoFar invoking done
    → IsLawful v invoking (leaving v done exited next x)
leaving-lawful v invoking done exited next x so = record {
  bounds = leaving-bounded v invoking done exited next x so;
  fits =
      chosen-few (is_within_limit x) _ _ (few-unforked done.children so.unforked)
      (few-unforked done.children so.unforked);
}

pausing-lawful : (v : Seen) (invoking : Bool) (done : Progress) (x : Json) (until : ℕ)
    → IsSoFar invoking done → IsLawful v invoking (pausing v done x until)
pausing-lawful v invoking done x until so =
    record {
      bounds = pausing-bounded v invoking done x until so;
      fits = few-unforked done.children
          so.unforked;
    }

retrying-lawful : (v : Seen) (invoking : Bool) (done : Progress) (x : Json) (n i until : ℕ)
    → IsSoFar invoking done → IsLawful v invoking (retrying v done x n i until)
retrying-lawful v invoking done x n i until so =
    record {
      bounds = retrying-bounded v invoking done x n i until so;
      fits = few-unforked
          done.children so.unforked;
    }

-- what is answered by that effect doesn't either
pub fits_as : {E : Type 0} (r : Result Effect E) (f : Effect) → IfOk r (λ e. e ≡ f)
    → AreFew f.children → IfOk r (λ e. AreFew e.children)
fits_as (Ok e) f is few = subst (λ (g : Effect). AreFew g.children) (sym is) few
fits_as (Err x) f is few = tt

-- ---- states that are left in the step that enters them

passed-lawful : (v : Seen) (invoking : Bool) (done : Progress) (exited : EventKind)
    (next : Option (List ℕ)) (g : Given) → IsSoFar invoking done
    → IsLawful v invoking (passed v done exited next g)
passed-lawful v invoking done exited next (Ok z) so =
    leaving-lawful v invoking done exited next z so
passed-lawful v invoking done exited next (Err e) so = failing-lawful v invoking done e so

in_one-lawful : (v : Seen) (invoking : Bool) (gives : Json → Given) (entered exited : EventKind)
    (next : Option (List ℕ)) (o : Option Json)
    → IsLawful v invoking (in_one gives entered exited next v o)
in_one-lawful v invoking gives entered exited next (Some x) =
    passed-lawful v invoking (entering v entered x) exited next (gives x)
    (entering-so-far v invoking entered x)
in_one-lawful v invoking gives entered exited next None = idle-lawful v invoking

pub pass-lawful : (d : Data) (f : Facts) (v : Seen) → IsLawful v false (pass_effect d f v)
pass-lawful d f v =
    in_one-lawful v false (λ x. pass_output d x (context_of f v)) PassStateEntered PassStateExited
    (next_in d) (entering_with v.current)

pub succeed-lawful : (d : Data) (f : Facts) (v : Seen) → IsLawful v false (succeed_effect d f v)
succeed-lawful d f v =
    in_one-lawful v false (λ x. passed_on d x (context_of f v)) SucceedStateEntered
    SucceedStateExited None (entering_with v.current)

begun-lawful : (v : Seen) (invoking : Bool) (does : Json → Effect) (o : Option Json)
    → ((x : Json) → IsLawful v invoking (does x)) → IsLawful v invoking (begun does v o)
begun-lawful v invoking does (Some x) each = each x
begun-lawful v invoking does None each = idle-lawful v invoking

pub fail-lawful : (d : Data) (f : Facts) (v : Seen) → IsLawful v false (fail_effect d f v)
fail-lawful d f v =
    begun-lawful v false _ (entering_with v.current)
    (λ x. failing-lawful v false (entering v FailStateEntered x)
    (fail_error d (data_of x) (context_of f v)) (entering-so-far v false FailStateEntered x))

decided-lawful : (v : Seen) (done : Progress) (g : GivenTarget) → IsSoFar false done
    → IsLawful v false (decided v done g)
decided-lawful v done (Ok g) so = leaving-lawful v false done ChoiceStateExited (Some g.0) g.1 so
decided-lawful v done (Err e) so = failing-lawful v false done e so

pub choice-lawful : (d : Data) (f : Facts) (v : Seen) → IsLawful v false (choice_effect d f v)
choice-lawful d f v =
    begun-lawful v false _ (entering_with v.current)
    (λ x. decided-lawful v (entering v ChoiceStateEntered x)
    (choice_output d x (context_of f v)) (entering-so-far v false ChoiceStateEntered x))

waits-lawful : (v : Seen) (done : Progress) (x : Json) (g : GivenMoment) → IsSoFar false done
    → IsLawful v false (waits v done x g)
waits-lawful v done x (Ok until) so = pausing-lawful v false done x until so
waits-lawful v done x (Err e) so = failing-lawful v false done e so

wait_over-lawful : (d : Data) (f : Facts) (v : Seen) (o : Option Json)
    → IsLawful v false (wait_over d f v o)
wait_over-lawful d f v (Some x) =
    passed-lawful v false unstarted WaitStateExited (next_in d) (passed_on d x (context_of f v))
    (unstarted-so-far false)
wait_over-lawful d f v None = idle-lawful v false

wait_with-lawful : (d : Data) (f : Facts) (v : Seen) (o : Option Json)
    → IsLawful v false (wait_with d f v o)
wait_with-lawful d f v (Some x) =
    waits-lawful v (entering v WaitStateEntered x) x (wait_until d v.moment x (context_of f v))
    (entering-so-far v false WaitStateEntered x)
wait_with-lawful d f v None = wait_over-lawful d f v (pausing_with v.current)

pub wait-lawful : (d : Data) (f : Facts) (v : Seen) → IsLawful v false (wait_effect d f v)
wait-lawful d f v = wait_with-lawful d f v (entering_with v.current)

-- ---- errors

handled-lawful : (retry : Option Data) (v : Seen) (invoking : Bool) (done : Progress)
    (exited : EventKind) (x : Json) (e : ErrorOut) (h : Handling) → IsSoFar invoking done
    → IsLawful v invoking (handled retry v done exited x e h)
handled-lawful retry v invoking done exited x e (again i until) so =
    retrying-lawful v invoking done x (item_count (handlers_in retry)) i until so
handled-lawful retry v invoking done exited x e (caught c) so =
    passed-lawful v invoking done exited (next_in c)
    (put_into (value_in (codes "ResultPath") c) x (error_output e)) so
handled-lawful retry v invoking done exited x e unhandled so = failing-lawful v invoking done e so

settled-lawful : (retry catch : Option Data) (next : Option (List ℕ)) (v : Seen) (invoking : Bool)
    (done : Progress) (exited : EventKind) (x : Json) (g : Given) → IsSoFar invoking done
    → IsLawful v invoking (settled retry catch next v done exited x g)
settled-lawful retry catch next v invoking done exited x (Ok z) so =
    leaving-lawful v invoking done exited next z so
settled-lawful retry catch next v invoking done exited x (Err e) so =
    handled-lawful retry v invoking done exited x e
    (decision retry catch (error_name e) (uses_in v.current) v.moment) so

-- ---- Task

-- a Task that was invoked has told of at most four events, and of one more when it is answered
pub record IsInvoked (done : Progress) : Type 0 where
  pub short : length done.events ≤ 4
  pub some : 0 < length done.events
  pub unforked : is_forked done.children ≡ false

told-so-far : (v : Seen) (done : Progress) (kind : EventKind) (body : Json) → IsInvoked done
    → IsSoFar true (telling v done kind body)
told-so-far v done kind body is = record {
  short = omega (arith, length-append {A = Draft}, is.short);
  unforked = is.unforked;
  changes_tell = λ _. omega (arith, length-append {A = Draft}, is.some);
  raises = λ _. refl;
  tells = λ _. omega (arith, length-append {A = Draft}, is.some);
}

fails-lawful : (d : Data) (v : Seen) (done : Progress) (x : Json) (e : ErrorOut) → IsInvoked done
    → IsLawful v true (task_fails d v done x e)
fails-lawful d v done x e is =
    settled-lawful (value_in (codes "Retry") d) (value_in (codes "Catch") d) (next_in d) v true
    (telling v done TaskFailed (error_output e)) TaskStateExited x (Err e)
    (told-so-far v done TaskFailed (error_output e) is)

returns-lawful : (d c : Data) (v : Seen) (done : Progress) (x r : Json) → IsInvoked done
    → IsLawful v true (task_returns d c v done x r)
returns-lawful d c v done x r is =
    settled-lawful (value_in (codes "Retry") d) (value_in (codes "Catch") d) (next_in d) v true
    (telling v done TaskSucceeded r) TaskStateExited x (selected d x c r)
    (told-so-far v done TaskSucceeded r is)

pub answered-lawful : (d c : Data) (v : Seen) (done : Progress) (x : Json) (o : Option Answer)
    → IsInvoked done → IsLawful v true (task_answered d c v done x o)
answered-lawful d c v done x (Some (Returns r)) is =
    chosen-lawful (is_within_limit r) v true _ _ (returns-lawful d c v done x r is)
    (fails-lawful d v done x over_limit is)
answered-lawful d c v done x (Some (Throws error cause)) is =
    fails-lawful d v done x (record { error = Some error; cause = cause }) is
answered-lawful d c v done x None is = fails-lawful d v done x no_answer is

pub invoked-is : (v : Seen) (x y : Json) → IsInvoked (invoked v (beginning v TaskStateEntered x) y)
invoked-is v x y = record {
  short = omega (arith, length-append {A = Draft}, beginning-short v TaskStateEntered x v.current);
  some = omega (arith, length-append {A = Draft});
  unforked = ap is_forked (beginning-kept v TaskStateEntered x v.current);
}

task_with-lawful : (d c : Data) (v : Seen) (x : Json) (g : Given)
    → IsLawful v true (task_with d c v (beginning v TaskStateEntered x) x g)
task_with-lawful d c v x (Ok y) =
    answered-lawful d c v (invoked v (beginning v TaskStateEntered x) y) x
    (answer_to v.case (name_in v.current) v.count) (invoked-is v x y)
task_with-lawful d c v x (Err e) =
    settled-lawful (value_in (codes "Retry") d) (value_in (codes "Catch") d) (next_in d) v true
    (beginning v TaskStateEntered x) TaskStateExited x (Err e)
    (beginning-so-far v true TaskStateEntered x v.current)

pub task-lawful : (d : Data) (f : Facts) (v : Seen) → IsLawful v true (task_effect d f v)
task-lawful d f v =
    begun-lawful v true _ (beginning_with v.current)
    (λ x. task_with-lawful d (context_of f v) v x (effective d x (context_of f v)))

-- ---- states that fork

-- a state that forks has told of it
forking-bounded : (v : Seen) (done : Progress) (x : Json) (n : ℕ) (items : List Data)
    (branches : List Record) → length done.events ≤ 8 → 0 < length done.events → done.raises ≡ false
    → IsBounded v false (forking v done x n items branches)
forking-bounded v done x n items branches short told unraised = record {
  few = short;
  changes_tell = λ _. told;
  raises = λ h. absurd (let g : false ≡ true = sym unraised ∙ h in (cc));
  tells = λ _. told;
  at_root = λ h. (cc);
  only_ends = λ h. (cc);
  ends = λ root _ over. (cc);
}

gathered-so-far : (v : Seen) (kind : EventKind) (body : Json)
    → IsSoFar false (telling v gathered kind body)
gathered-so-far v kind body = record {
  short = omega arith;
  unforked = refl;
  changes_tell = λ _. omega arith;
  raises = λ h. h;
  tells = λ _. omega arith;
}

pub fork_settled-lawful : (exited : EventKind) (d : Data) (v : Seen) (done : Progress) (x : Json)
    (g : Given) → IsSoFar false done → IsLawful v false (fork_settled exited d v done x g)
fork_settled-lawful exited d v done x g so =
    settled-lawful (value_in (codes "Retry") d) (value_in (codes "Catch") d) (next_in d) v false
    done exited x g so

joined_by-lawful : (succeeded failed exited : EventKind) (d c : Data) (v : Seen) (x : Json)
    (e : Option ErrorOut) (o : Option (List Data))
    → IsLawful v false (joined_by succeeded failed exited d c v x e o)
joined_by-lawful succeeded failed exited d c v x (Some e) o =
    fork_settled-lawful exited d v (telling v gathered failed (error_output e)) x (Err e)
    (gathered-so-far v failed (error_output e))
joined_by-lawful succeeded failed exited d c v x None (Some ds) =
    fork_settled-lawful exited d v (telling v gathered succeeded (Dict [])) x
    (selected d x c (ListOf ds)) (gathered-so-far v succeeded (Dict []))
joined_by-lawful succeeded failed exited d c v x None None = idle-lawful v false

pub joined-lawful : (succeeded failed exited : EventKind) (d c : Data) (v : Seen) (x : Json)
    → IsLawful v false (joined succeeded failed exited d c v x)
joined-lawful succeeded failed exited d c v x =
    joined_by-lawful succeeded failed exited d c v x (first_error v.children) (outputs v.children)

-- ---- Parallel

-- a Parallel that begins has told of two events at most
begun-raised : (v : Seen) (entered : EventKind) (x : Json) (r : Record)
    → (beginning_by v entered x r).raises ≡ false
begun-raised v entered x (New n y) = refl
begun-raised v entered x (Ready n y) = refl
begun-raised v entered x (Pausing n y since until) = refl
begun-raised v entered x (Again n y since uses until) = refl
begun-raised v entered x (Forked n y since uses items) = refl
begun-raised v entered x (Done y) = refl
begun-raised v entered x (Failed e) = refl

parallel_joins-lawful : (d c : Data) (v : Seen) (o : Option Json)
    → IsLawful v false (parallel_joins d c v o)
parallel_joins-lawful d c v (Some x) =
    joined-lawful ParallelStateSucceeded ParallelStateFailed ParallelStateExited d c v x
parallel_joins-lawful d c v None = idle-lawful v false

parallel_forks-bounded : (d : Data) (v : Seen) (x : Json) (g : Given)
    → IsBounded v false (parallel_forks d v (beginning v ParallelStateEntered x) x g)
parallel_forks-bounded d v x (Ok y) =
    forking-bounded v
    (telling v (beginning v ParallelStateEntered x) ParallelStateStarted (Dict [])) x
    (item_count (handlers_in (value_in (codes "Retry") d))) []
    (ready_at (starts_in (value_in (codes "Branches") d)) y)
    (omega (
      arith,
      length-append {A = Draft},
      beginning-short v ParallelStateEntered x
          v.current,
    )) (omega (arith, length-append {A = Draft}))
    (begun-raised v ParallelStateEntered x v.current)
parallel_forks-bounded d v x (Err e) =
    (fork_settled-lawful ParallelStateExited d v (beginning v ParallelStateEntered x) x (Err e)
    (beginning-so-far v false ParallelStateEntered x v.current)).bounds

parallel_with-bounded : (d c : Data) (v : Seen) (o : Option Json)
    → IsBounded v false (parallel_with d c v o)
parallel_with-bounded d c v (Some x) = parallel_forks-bounded d v x (effective d x c)
parallel_with-bounded d c v None = (parallel_joins-lawful d c v (forked_with v.current)).bounds

pub parallel-bounded : (d : Data) (f : Facts) (v : Seen) → IsBounded v false (parallel_effect d f v)
parallel-bounded d f v = parallel_with-bounded d (context_of f v) v (beginning_with v.current)

-- ---- Map

map_joins-lawful : (d c : Data) (v : Seen) (o : Option Json) → IsLawful v false (map_joins d c v o)
map_joins-lawful d c v (Some x) =
    joined-lawful MapStateSucceeded MapStateFailed MapStateExited d c v x
map_joins-lawful d c v None = idle-lawful v false

map_forks-bounded : (d : Data) (v : Seen) (x : Json) (g : GivenFork)
    → IsBounded v false (map_forks d v (beginning v MapStateEntered x) x g)
map_forks-bounded d v x (Ok g) =
    forking-bounded v (telling v (beginning v MapStateEntered x) MapStateStarted (length_body g.0))
    x (item_count (handlers_in (value_in (codes "Retry") d))) g.0 g.1
    (omega (arith, length-append {A = Draft}, beginning-short v MapStateEntered x v.current))
    (omega (arith, length-append {A = Draft})) (begun-raised v MapStateEntered x v.current)
map_forks-bounded d v x (Err e) =
    (fork_settled-lawful MapStateExited d v (beginning v MapStateEntered x) x (Err e)
    (beginning-so-far v false MapStateEntered x v.current)).bounds

map_with-bounded : (d : Data) (f : Facts) (v : Seen) (o : Option Json)
    → IsBounded v false (map_with d f v o)
map_with-bounded d f v (Some x) = map_forks-bounded d v x (fork_of d f v x)
map_with-bounded d f v None = (map_joins-lawful d (context_of f v) v (forked_with v.current)).bounds

pub map-bounded : (d : Data) (f : Facts) (v : Seen) → IsBounded v false (map_effect d f v)
map-bounded d f v = map_with-bounded d f v (beginning_with v.current)

-- ---- a state of any type

-- a kind that doesn't invoke keeps the bounds of one that may
any-invoking : (v : Seen) (invoking : Bool) (e : Effect) → IsBounded v false e
    → IsBounded v invoking e
any-invoking v invoking e b = record {
  few = b.few;
  changes_tell = b.changes_tell;
  raises = λ h. absurd (let g : false ≡ true = b.raises h in (cc));
  tells = b.tells;
  at_root = b.at_root;
  only_ends = b.only_ends;
  ends = b.ends;
}

-- a Task where the type is Task
task_or : (b : Bool) (v : Seen) (e f : Effect) → IsBounded v true e → IsBounded v false f
    → IsBounded v b (if b then e else f)
task_or true v e f h g = h
task_or false v e f h g = g

by_type-bounded : (o : Option (List ℕ)) (d : Data) (f : Facts) (v : Seen)
    → IsBounded v (is_invoking_type o) (effect_by_type o d f v)
by_type-bounded None d f v = idle-bounded v false v.current refl
by_type-bounded (Some t) d f v =
    let b : Bool = bytes_eq t (codes "Task") in
    chosen-bounded (bytes_eq t (codes "Pass")) v b _ _
    (any-invoking v b _ (pass-lawful d f v).bounds)
    (chosen-bounded (bytes_eq t (codes "Succeed")) v b _ _
    (any-invoking v b _ (succeed-lawful d f v).bounds)
    (chosen-bounded (bytes_eq t (codes "Fail")) v b _ _
    (any-invoking v b _ (fail-lawful d f v).bounds)
    (chosen-bounded (bytes_eq t (codes "Choice")) v b _ _
    (any-invoking v b _ (choice-lawful d f v).bounds)
    (chosen-bounded (bytes_eq t (codes "Wait")) v b _ _
    (any-invoking v b _ (wait-lawful d f v).bounds)
    (task_or b v _ _ (task-lawful d f v).bounds
    (chosen-bounded (bytes_eq t (codes "Parallel")) v false _ _ (parallel-bounded d f v)
    (chosen-bounded (bytes_eq t (codes "Map")) v false _ _ (map-bounded d f v)
    (idle-bounded v false v.current refl))))))))

pub state-bounded : (d : Data) (f : Facts) (v : Seen) → IsBounded v (invokes d) (state_effect d f v)
state-bounded d f v = by_type-bounded (text_in (value_in (codes "Type") d)) d f v

-- ---- what a state does doesn't depend on the table of states

-- two objects have these members in common
abbrev pub AreAlike : List (List ℕ) → Data → Data → Type 0
AreAlike names d e = (k : List ℕ) → is_among k names ≡ true → value_in k d ≡ value_in k e

fork_settled-alike : (exited : EventKind) (d e : Data) (v : Seen) (done : Progress) (x : Json)
    (g : Given) → AreAlike completion_names d e
    → fork_settled exited d v done x g ≡ fork_settled exited e v done x g
fork_settled-alike exited d e v done x g same =
    λ i. settled (same (codes "Retry") refl i) (same (codes "Catch") refl i)
    (text_in (same (codes "Next") refl i)) v done exited x g

selected-alike : (d e : Data) (x : Json) (c : Data) (r : Json) → AreAlike completion_names d e
    → selected d x c r ≡ selected e x c r
selected-alike d e x c r same =
    λ i. selected_by (same (codes "ResultSelector") refl i) (same (codes "ResultPath") refl i)
    (same (codes "OutputPath") refl i) x c r

joined_by-alike : (succeeded failed exited : EventKind) (d e c : Data) (v : Seen) (x : Json)
    (error : Option ErrorOut) (o : Option (List Data)) → AreAlike completion_names d e
    → joined_by succeeded failed exited d c v x error o
    ≡ joined_by succeeded failed exited e c v x error o
joined_by-alike succeeded failed exited d e c v x (Some error) o same =
    fork_settled-alike exited d e v (telling v gathered failed (error_output error)) x (Err error)
    same
joined_by-alike succeeded failed exited d e c v x None (Some ds) same =
    fork_settled-alike exited d e v (telling v gathered succeeded (Dict [])) x
    (selected d x c (ListOf ds)) same
    ∙ ap (fork_settled exited e v (telling v gathered succeeded (Dict [])) x)
    (selected-alike d e x c (ListOf ds) same)
joined_by-alike succeeded failed exited d e c v x None None same = refl

-- branches are joined by what the state says of its result and of its errors
pub joined-alike : (succeeded failed exited : EventKind) (d e c : Data) (v : Seen) (x : Json)
    → AreAlike completion_names d e
    → joined succeeded failed exited d c v x ≡ joined succeeded failed exited e c v x
joined-alike succeeded failed exited d e c v x same =
    joined_by-alike succeeded failed exited d e c v x (first_error v.children) (outputs v.children)
    same

-- the states that machines start at don't depend on it
start-is : (t : List Named) (b : Body) → start_in (body_of t b) ≡ b.start.name
start-is t b =
    ap (λ (o : Option Data). unwrap_or (text_in o) [])
    (sym (named (codes "StartAt") (Some (text b.start.name)) (body_members t b) refl))

starts-are : (t : List Named) (bs : List Body)
    → map start_in (bodies_of t bs) ≡ map (λ (b : Body). b.start.name) bs
starts-are t [] = refl
starts-are t (b ∷ bs) = λ i. start-is t b i ∷ starts-are t bs i

pub starts_of : (t : List Named) (bs : List Body) (o : Option Data)
    → Some (list (chain (bodies_of t bs))) ≡ o → starts_in o ≡ map (λ (b : Body). b.start.name) bs
starts_of t bs o is =
    ap starts_in (sym is) ∙ ap (map start_in) (list_back (bodies_of t bs)) ∙ starts-are t bs

-- a Parallel's branches start where its machines do
parallel_starts : (t : List Named) (p : Parallel)
    → starts_in (value_in (codes "Branches") (parallel_object t p))
    ≡ map (λ (b : Body). b.start.name) p.branches
parallel_starts t p =
    starts_of t p.branches _
    (named (codes "Branches") (Some (list (chain (bodies_of t p.branches))))
    (parallel_members t p) refl)

-- the members that say what its branches begin with
abbrev pub input_names : List (List ℕ)
input_names = codes "InputPath" ∷ codes "Parameters" ∷ []

effective-alike : (d e : Data) (x : Json) (c : Data) → AreAlike input_names d e
    → effective d x c ≡ effective e x c
effective-alike d e x c same =
    λ i. effective_by (same (codes "InputPath") refl i) (same (codes "Parameters") refl i) x c

parallel_forks-alike : (d e : Data) (v : Seen) (done : Progress) (x : Json) (g : Given)
    → AreAlike completion_names d e
    → starts_in (value_in (codes "Branches") d) ≡ starts_in (value_in (codes "Branches") e)
    → parallel_forks d v done x g ≡ parallel_forks e v done x g
parallel_forks-alike d e v done x (Ok y) same starts =
    λ i. forking v (telling v done ParallelStateStarted (Dict [])) x
    (item_count (handlers_in (same (codes "Retry") refl i))) [] (ready_at (starts i) y)
parallel_forks-alike d e v done x (Err error) same starts =
    fork_settled-alike ParallelStateExited d e v done x (Err error) same

parallel_joins-alike : (d e c : Data) (v : Seen) (o : Option Json) → AreAlike completion_names d e
    → parallel_joins d c v o ≡ parallel_joins e c v o
parallel_joins-alike d e c v (Some x) same =
    joined-alike ParallelStateSucceeded ParallelStateFailed ParallelStateExited d e c v x same
parallel_joins-alike d e c v None same = refl

parallel_with-alike : (d e c : Data) (v : Seen) (o : Option Json) → AreAlike input_names d e
    → AreAlike completion_names d e
    → starts_in (value_in (codes "Branches") d) ≡ starts_in (value_in (codes "Branches") e)
    → parallel_with d c v o ≡ parallel_with e c v o
parallel_with-alike d e c v (Some x) inputs outs starts =
    parallel_forks-alike d e v (beginning v ParallelStateEntered x) x (effective d x c) outs starts
    ∙ ap (parallel_forks e v (beginning v ParallelStateEntered x) x)
    (effective-alike d e x c inputs)
parallel_with-alike d e c v None inputs outs starts =
    parallel_joins-alike d e c v (forked_with v.current) outs

parallel-alike : (t u : List Named) (p : Parallel) (f : Facts) (v : Seen)
    → parallel_effect (parallel_object t p) f v ≡ parallel_effect (parallel_object u p) f v
parallel-alike t u p f v =
    parallel_with-alike (parallel_object t p) (parallel_object u p) (context_of f v) v
    (beginning_with v.current)
    (λ k among. tied input_names (parallel_members t p) (parallel_members u p) k among
    (refl, (refl, tt)))
    (λ k among. tied completion_names (parallel_members t p) (parallel_members u p) k among
    (refl, (refl, (refl, (refl, (refl, (refl, (refl, tt))))))))
    (parallel_starts t p ∙ sym (parallel_starts u p))

-- a Map's iterations start where its machine does
map_start : (t : List Named) (m : Map)
    → iteration_start (processor_in (map_object t m)) ≡ (body_in m.processor).start.name
map_start t m =
    ap (λ (o : Option Data). unwrap_or (text_in o) [])
    (sym (machine_of t m (body_in m.processor) (codes "StartAt") refl refl))
    ∙ start-is t (body_in m.processor)

-- the members that say what they begin with
abbrev pub map_names : List (List ℕ)
map_names = codes "InputPath" ∷ codes "ItemsPath" ∷ codes "Parameters" ∷ codes "ItemSelector" ∷ []

fork_of-alike : (d e : Data) (f : Facts) (v : Seen) (x : Json) → AreAlike map_names d e
    → iteration_start (processor_in d) ≡ iteration_start (processor_in e)
    → fork_of d f v x ≡ fork_of e f v x
fork_of-alike d e f v x same start =
    λ i. fork_with (same (codes "InputPath") refl i) (same (codes "ItemsPath") refl i)
    (option_or (same (codes "Parameters") refl i) (same (codes "ItemSelector") refl i))
    (start i) f v x

map_forks-alike : (d e : Data) (v : Seen) (done : Progress) (x : Json) (g : GivenFork)
    → AreAlike completion_names d e → map_forks d v done x g ≡ map_forks e v done x g
map_forks-alike d e v done x (Ok g) same =
    λ i. forking v (telling v done MapStateStarted (length_body g.0)) x
    (item_count (handlers_in (same (codes "Retry") refl i))) g.0 g.1
map_forks-alike d e v done x (Err error) same =
    fork_settled-alike MapStateExited d e v done x (Err error) same

map_joins-alike : (d e c : Data) (v : Seen) (o : Option Json) → AreAlike completion_names d e
    → map_joins d c v o ≡ map_joins e c v o
map_joins-alike d e c v (Some x) same =
    joined-alike MapStateSucceeded MapStateFailed MapStateExited d e c v x same
map_joins-alike d e c v None same = refl

map_with-alike : (d e : Data) (f : Facts) (v : Seen) (o : Option Json) → AreAlike map_names d e
    → AreAlike completion_names d e
    → iteration_start (processor_in d) ≡ iteration_start (processor_in e)
    → map_with d f v o ≡ map_with e f v o
map_with-alike d e f v (Some x) inputs outs start =
    map_forks-alike d e v (beginning v MapStateEntered x) x (fork_of d f v x) outs
    ∙ ap (map_forks e v (beginning v MapStateEntered x) x) (fork_of-alike d e f v x inputs start)
map_with-alike d e f v None inputs outs start =
    map_joins-alike d e (context_of f v) v (forked_with v.current) outs

map-alike : (t u : List Named) (m : Map) (f : Facts) (v : Seen)
    → map_effect (map_object t m) f v ≡ map_effect (map_object u m) f v
map-alike t u m f v =
    map_with-alike (map_object t m) (map_object u m) f v (beginning_with v.current)
    (λ k among. tied map_names (map_members t m) (map_members u m) k among
    (refl, (refl, (refl, (refl, tt)))))
    (λ k among. tied completion_names (map_members t m) (map_members u m) k among
    (refl, (refl, (refl, (refl, (refl, (refl, (refl, tt))))))))
    (map_start t m ∙ sym (map_start u m))

-- what a state does doesn't depend on the states of the machines inside it, nor on their table
pub any_table : (t u : List Named) (s : State) (f : Facts) (v : Seen)
    → state_effect (state_of t s) f v ≡ state_effect (state_of u s) f v
any_table t u (state.Task x) f v = refl
any_table t u (state.Pass x) f v = refl
any_table t u (state.Choice x) f v = refl
any_table t u (state.Wait x) f v = refl
any_table t u (state.Parallel x) f v = parallel-alike t u x f v
any_table t u (state.Map x) f v = map-alike t u x f v
any_table t u (state.Succeed x) f v = refl
any_table t u (state.Fail x) f v = refl

-- nor does whether it invokes
pub any_table_invokes : (t u : List Named) (s : State)
    → invokes (state_of t s) ≡ invokes (state_of u s)
any_table_invokes t u (state.Task x) = refl
any_table_invokes t u (state.Pass x) = refl
any_table_invokes t u (state.Choice x) = refl
any_table_invokes t u (state.Wait x) = refl
any_table_invokes t u (state.Parallel x) = refl
any_table_invokes t u (state.Map x) = refl
any_table_invokes t u (state.Succeed x) = refl
any_table_invokes t u (state.Fail x) = refl

-- nor does how many iterations run at once
pub any_table_slots : (t u : List Named) (s : State) → slots (state_of t s) ≡ slots (state_of u s)
any_table_slots t u (state.Task x) = refl
any_table_slots t u (state.Pass x) = refl
any_table_slots t u (state.Choice x) = refl
any_table_slots t u (state.Wait x) = refl
any_table_slots t u (state.Parallel x) = refl
any_table_slots t u (state.Map x) =
    ap limit_in (tied (codes "MaxConcurrency" ∷ []) (map_members t x) (map_members u x)
    (codes "MaxConcurrency") refl (refl, tt))
any_table_slots t u (state.Succeed x) = refl
any_table_slots t u (state.Fail x) = refl
