-- A step where the state was invoked another number of times before.
use Rattle.std.proofs.Common.{◌≡◌, ℕ, List, [], Bool, true, false, refl, ap, ◌∙◌, cond, Option, Some, None}
use Rattle.std.specs.Prelude.{Ok, Err, codes}
use Rattle.asl_json_data.specs.Data.{Data}
use Rattle.asl_json.specs.View.{data_of}
use Rattle.asl_json.specs.Same.{bytes_eq}
use Rattle.asl_json.specs.Meaning.{value_in}
use Rattle.asl_json.specs.declared.value.Json.{Json}
use Rattle.asl_json.specs.declared.value.Json.TheVariants.{Dict, List as ListOf}
use Rattle.asl_history.specs.declared.kind.EventKind.{EventKind}
use Rattle.asl_history.specs.declared.kind.EventKind.TheVariants.{PassStateEntered, PassStateExited, SucceedStateEntered, SucceedStateExited, FailStateEntered, ChoiceStateEntered, WaitStateEntered, WaitStateExited, TaskStateEntered, TaskStateExited, TaskSucceeded, TaskFailed, ParallelStateEntered, ParallelStateExited, ParallelStateSucceeded, ParallelStateFailed, MapStateEntered, MapStateExited, MapStateSucceeded, MapStateFailed}
use Rattle.asl_mock.specs.Answers.{answer_to}
use Rattle.asl_mock.specs.declared.response.Answer.{Answer}
use Rattle.asl_mock.specs.declared.response.Answer.TheVariants.{Returns, Throws}
use Rattle.asl_handle.specs.Decisions.{Handling, again, caught, unhandled, decision}
use Rattle.asl_def_shared.specs.Texts.{text_in}
use Rattle.asl_step.specs.declared.effect.Effect.{Effect}
use Rattle.asl_step.specs.declared.effect.Progress.{Progress}
use Rattle.asl_step.specs.declared.facts.Facts.{Facts}
use Rattle.asl_step.specs.declared.record.ErrorOut.{ErrorOut}
use Rattle.asl_step.specs.Records.{name_in, uses_in, entering_with, beginning_with, pausing_with, error_name}
use Rattle.asl_step.specs.Seen.{Seen}
use Rattle.asl_step.specs.Context.{context_of}
use Rattle.asl_step.specs.Rows.{idle, entering, beginning, telling, unstarted, failing, error_output, is_within_limit, over_limit}
use Rattle.asl_step_io.specs.Paths.{Given, put_into}
use Rattle.asl_kinds.specs.Members.{next_in, effective, passed_on, selected, fail_error, GivenTarget, choice_output, GivenMoment, wait_until, no_answer}
use Rattle.asl_kinds.specs.Forks.{in_iteration, GivenFork, forked_with, first_error, outputs, gathered}
use Rattle.asl_kinds.specs.Table.{passed, in_one, pass_effect, succeed_effect, begun, fail_effect, decided, choice_effect, waits, wait_over, wait_with, wait_effect, handled, settled, invoked, task_settled, task_fails, task_returns, task_answered, task_with, task_effect, fork_settled, joined_by, parallel_forks, parallel_joins, parallel_with, parallel_effect, fork_of, map_forks, map_joins, map_with, map_effect, effect_by_type, state_effect, is_invoking_type, invokes}
use Rattle.asl_step_reads.specs.Steps.{with_count}
use Rattle.asl_step_reads.proofs.Agreeing.{AllAgree}
use Rattle.asl_step_reads.proofs.Forking.{fork_same}
use Rattle.asl_step_reads.proofs.Members.{effective_agrees, pass_agrees, selected_agrees, passed_agrees, choice_agrees, wait_agrees, fail_agrees}

-- ---- rows

module _ (v : Seen) (n : ℕ) where
  passed_same : (done : Progress) (exited : EventKind) (next : Option (List ℕ)) (g : Given) → passed (with_count v n) done exited next g ≡ passed v done exited next g
  passed_same done exited next (Ok z) = refl
  passed_same done exited next (Err e) = refl

  in_one_same : (g h : Json → Given) (entered exited : EventKind) (next : Option (List ℕ)) (o : Option Json) → ((x : Json) → g x ≡ h x) → in_one g entered exited next (with_count v n) o ≡ in_one h entered exited next v o
  in_one_same g h entered exited next (Some x) same = passed_same (entering v entered x) exited next (g x) ∙ ap (passed v (entering v entered x) exited next) (same x)
  in_one_same g h entered exited next None same = refl

  decided_same : (done : Progress) (g : GivenTarget) → decided (with_count v n) done g ≡ decided v done g
  decided_same done (Ok g) = refl
  decided_same done (Err e) = refl

  waits_same : (done : Progress) (x : Json) (g : GivenMoment) → waits (with_count v n) done x g ≡ waits v done x g
  waits_same done x (Ok until) = refl
  waits_same done x (Err e) = refl

  handled_same : (retry : Option Data) (done : Progress) (exited : EventKind) (x : Json) (e : ErrorOut) (h : Handling) → handled retry (with_count v n) done exited x e h ≡ handled retry v done exited x e h
  handled_same retry done exited x e (again i until) = refl
  handled_same retry done exited x e (caught c) = passed_same done exited (next_in c) (put_into (value_in (codes "ResultPath") c) x (error_output e))
  handled_same retry done exited x e unhandled = refl

  settled_same : (retry catch : Option Data) (next : Option (List ℕ)) (done : Progress) (exited : EventKind) (x : Json) (g : Given) → settled retry catch next (with_count v n) done exited x g ≡ settled retry catch next v done exited x g
  settled_same retry catch next done exited x (Ok z) = refl
  settled_same retry catch next done exited x (Err e) = handled_same retry done exited x e (decision retry catch (error_name e) (uses_in v.current) v.moment)

-- ---- kinds

module _ (d : Data) (f : Facts) (v : Seen) (n : ℕ) (agree : AllAgree (context_of f (with_count v n)) (context_of f v) d) where
  pass_same : pass_effect d f (with_count v n) ≡ pass_effect d f v
  pass_same = in_one_same v n _ _ PassStateEntered PassStateExited (next_in d) (entering_with v.current) (λ x. pass_agrees (context_of f (with_count v n)) (context_of f v) d x agree)

  succeed_same : succeed_effect d f (with_count v n) ≡ succeed_effect d f v
  succeed_same = in_one_same v n _ _ SucceedStateEntered SucceedStateExited None (entering_with v.current) (λ x. passed_agrees (context_of f (with_count v n)) (context_of f v) d x agree)

  fail_same : fail_effect d f (with_count v n) ≡ fail_effect d f v
  fail_same = by (entering_with v.current)
    where
      by : (o : Option Json) → begun (λ x. failing (with_count v n) (entering (with_count v n) FailStateEntered x) (fail_error d (data_of x) (context_of f (with_count v n)))) (with_count v n) o ≡ begun (λ x. failing v (entering v FailStateEntered x) (fail_error d (data_of x) (context_of f v))) v o
      by (Some x) = ap (failing v (entering v FailStateEntered x)) (fail_agrees (context_of f (with_count v n)) (context_of f v) d (data_of x) agree)
      by None = refl

  choice_same : choice_effect d f (with_count v n) ≡ choice_effect d f v
  choice_same = by (entering_with v.current)
    where
      by : (o : Option Json) → begun (λ x. decided (with_count v n) (entering (with_count v n) ChoiceStateEntered x) (choice_output d x (context_of f (with_count v n)))) (with_count v n) o ≡ begun (λ x. decided v (entering v ChoiceStateEntered x) (choice_output d x (context_of f v))) v o
      by (Some x) =
          decided_same v n (entering v ChoiceStateEntered x) (choice_output d x (context_of f (with_count v n)))
          ∙ ap (decided v (entering v ChoiceStateEntered x)) (choice_agrees (context_of f (with_count v n)) (context_of f v) d x agree)
      by None = refl

  over_same : (o : Option Json) → wait_over d f (with_count v n) o ≡ wait_over d f v o
  over_same (Some x) =
      passed_same v n unstarted WaitStateExited (next_in d) (passed_on d x (context_of f (with_count v n)))
      ∙ ap (passed v unstarted WaitStateExited (next_in d)) (passed_agrees (context_of f (with_count v n)) (context_of f v) d x agree)
  over_same None = refl

  wait_with_same : (o : Option Json) → wait_with d f (with_count v n) o ≡ wait_with d f v o
  wait_with_same (Some x) =
      waits_same v n (entering v WaitStateEntered x) x (wait_until d v.moment x (context_of f (with_count v n)))
      ∙ ap (waits v (entering v WaitStateEntered x) x) (wait_agrees (context_of f (with_count v n)) (context_of f v) d v.moment x agree)
  wait_with_same None = over_same (pausing_with v.current)

  wait_same : wait_effect d f (with_count v n) ≡ wait_effect d f v
  wait_same = wait_with_same (entering_with v.current)

  -- ---- Task

  task_settled_same : (done : Progress) (x : Json) (g : Given) → task_settled d (with_count v n) done x g ≡ task_settled d v done x g
  task_settled_same done x g = settled_same v n (value_in (codes "Retry") d) (value_in (codes "Catch") d) (next_in d) done TaskStateExited x g

  task_returns_same : (done : Progress) (x r : Json) → task_returns d (context_of f (with_count v n)) (with_count v n) done x r ≡ task_returns d (context_of f v) v done x r
  task_returns_same done x r =
      task_settled_same (telling v done TaskSucceeded r) x (selected d x (context_of f (with_count v n)) r)
      ∙ ap (task_settled d v (telling v done TaskSucceeded r) x) (selected_agrees (context_of f (with_count v n)) (context_of f v) d x r agree)

  task_fails_same : (done : Progress) (x : Json) (e : ErrorOut) → task_fails d (with_count v n) done x e ≡ task_fails d v done x e
  task_fails_same done x e = task_settled_same (telling v done TaskFailed (error_output e)) x (Err e)

  answered_same : (done : Progress) (x : Json) (o : Option Answer) → task_answered d (context_of f (with_count v n)) (with_count v n) done x o ≡ task_answered d (context_of f v) v done x o
  answered_same done x (Some (Returns r)) = λ i. cond (is_within_limit r) (task_returns_same done x r i) (task_fails_same done x over_limit i)
  answered_same done x (Some (Throws error cause)) = task_fails_same done x (record { error = Some error; cause = cause })
  answered_same done x None = task_fails_same done x no_answer

  module _ (answers : answer_to v.case (name_in v.current) n ≡ answer_to v.case (name_in v.current) v.count) where
    task_with_same : (done : Progress) (x : Json) (g : Given) → task_with d (context_of f (with_count v n)) (with_count v n) done x g ≡ task_with d (context_of f v) v done x g
    task_with_same done x (Ok y) =
        answered_same (invoked v done y) x (answer_to v.case (name_in v.current) n)
        ∙ ap (task_answered d (context_of f v) v (invoked v done y) x) answers
    task_with_same done x (Err e) = task_settled_same done x (Err e)

    pub task_same : task_effect d f (with_count v n) ≡ task_effect d f v
    task_same = by (beginning_with v.current)
      where
        by : (o : Option Json) → begun (λ x. task_with d (context_of f (with_count v n)) (with_count v n) (beginning (with_count v n) TaskStateEntered x) x (effective d x (context_of f (with_count v n)))) (with_count v n) o ≡ begun (λ x. task_with d (context_of f v) v (beginning v TaskStateEntered x) x (effective d x (context_of f v))) v o
        by (Some x) =
            task_with_same (beginning v TaskStateEntered x) x (effective d x (context_of f (with_count v n)))
            ∙ ap (task_with d (context_of f v) v (beginning v TaskStateEntered x) x) (effective_agrees (context_of f (with_count v n)) (context_of f v) d x agree)
        by None = refl

  -- ---- states that fork

  fork_settled_same : (exited : EventKind) (done : Progress) (x : Json) (g : Given) → fork_settled exited d (with_count v n) done x g ≡ fork_settled exited d v done x g
  fork_settled_same exited done x g = settled_same v n (value_in (codes "Retry") d) (value_in (codes "Catch") d) (next_in d) done exited x g

  joined_by_same : (succeeded failed exited : EventKind) (x : Json) (o : Option ErrorOut) (ds : Option (List Data)) → joined_by succeeded failed exited d (context_of f (with_count v n)) (with_count v n) x o ds ≡ joined_by succeeded failed exited d (context_of f v) v x o ds
  joined_by_same succeeded failed exited x (Some e) ds = fork_settled_same exited (telling v gathered failed (error_output e)) x (Err e)
  joined_by_same succeeded failed exited x None (Some ds) =
      fork_settled_same exited (telling v gathered succeeded (Dict [])) x (selected d x (context_of f (with_count v n)) (ListOf ds))
      ∙ ap (fork_settled exited d v (telling v gathered succeeded (Dict [])) x) (selected_agrees (context_of f (with_count v n)) (context_of f v) d x (ListOf ds) agree)
  joined_by_same succeeded failed exited x None None = refl

  parallel_forks_same : (done : Progress) (x : Json) (g : Given) → parallel_forks d (with_count v n) done x g ≡ parallel_forks d v done x g
  parallel_forks_same done x (Ok y) = refl
  parallel_forks_same done x (Err e) = fork_settled_same ParallelStateExited done x (Err e)

  parallel_joins_same : (o : Option Json) → parallel_joins d (context_of f (with_count v n)) (with_count v n) o ≡ parallel_joins d (context_of f v) v o
  parallel_joins_same (Some x) = joined_by_same ParallelStateSucceeded ParallelStateFailed ParallelStateExited x (first_error v.children) (outputs v.children)
  parallel_joins_same None = refl

  parallel_with_same : (o : Option Json) → parallel_with d (context_of f (with_count v n)) (with_count v n) o ≡ parallel_with d (context_of f v) v o
  parallel_with_same (Some x) =
      parallel_forks_same (beginning v ParallelStateEntered x) x (effective d x (context_of f (with_count v n)))
      ∙ ap (parallel_forks d v (beginning v ParallelStateEntered x) x) (effective_agrees (context_of f (with_count v n)) (context_of f v) d x agree)
  parallel_with_same None = parallel_joins_same (forked_with v.current)

  parallel_same : parallel_effect d f (with_count v n) ≡ parallel_effect d f v
  parallel_same = parallel_with_same (beginning_with v.current)

  -- ---- Map

  module _ (inside : (i : ℕ) (x : Data) → AllAgree (context_of f (in_iteration (with_count v n) i x)) (context_of f (in_iteration v i x)) d) where
    fork_is : (x : Json) → fork_of d f (with_count v n) x ≡ fork_of d f v x
    fork_is x = fork_same d f (with_count v n) v agree inside x

    map_forks_same : (done : Progress) (x : Json) (g : GivenFork) → map_forks d (with_count v n) done x g ≡ map_forks d v done x g
    map_forks_same done x (Ok g) = refl
    map_forks_same done x (Err e) = fork_settled_same MapStateExited done x (Err e)

    map_joins_same : (o : Option Json) → map_joins d (context_of f (with_count v n)) (with_count v n) o ≡ map_joins d (context_of f v) v o
    map_joins_same (Some x) = joined_by_same MapStateSucceeded MapStateFailed MapStateExited x (first_error v.children) (outputs v.children)
    map_joins_same None = refl

    map_with_same : (o : Option Json) → map_with d f (with_count v n) o ≡ map_with d f v o
    map_with_same (Some x) =
        map_forks_same (beginning v MapStateEntered x) x (fork_of d f (with_count v n) x)
        ∙ ap (map_forks d v (beginning v MapStateEntered x) x) (fork_is x)
    map_with_same None = map_joins_same (forked_with v.current)

    -- ---- a state of any type

    -- where it invokes, by what a Task does
    task_or_same : {x y : Effect} (b : Bool) → (b ≡ true → task_effect d f (with_count v n) ≡ task_effect d f v) → x ≡ y → cond b (task_effect d f (with_count v n)) x ≡ cond b (task_effect d f v) y
    task_or_same true task others = task refl
    task_or_same false task others = others

    forks_same : (t : List ℕ) → cond (bytes_eq t (codes "Parallel")) (parallel_effect d f (with_count v n)) (cond (bytes_eq t (codes "Map")) (map_effect d f (with_count v n)) (idle v.current)) ≡ cond (bytes_eq t (codes "Parallel")) (parallel_effect d f v) (cond (bytes_eq t (codes "Map")) (map_effect d f v) (idle v.current))
    forks_same t = λ i. cond (bytes_eq t (codes "Parallel")) (parallel_same i) (cond (bytes_eq t (codes "Map")) (map_with_same (beginning_with v.current) i) (idle v.current))

    type_same : (o : Option (List ℕ)) → (is_invoking_type o ≡ true → task_effect d f (with_count v n) ≡ task_effect d f v) → effect_by_type o d f (with_count v n) ≡ effect_by_type o d f v
    type_same None task = refl
    type_same (Some t) task =
        let others = task_or_same (bytes_eq t (codes "Task")) task (forks_same t) in
        λ i. cond (bytes_eq t (codes "Pass")) (pass_same i) (cond (bytes_eq t (codes "Succeed")) (succeed_same i) (cond (bytes_eq t (codes "Fail")) (fail_same i) (cond (bytes_eq t (codes "Choice")) (choice_same i) (cond (bytes_eq t (codes "Wait")) (wait_same i) (others i)))))

    pub state_same : (invokes d ≡ true → task_effect d f (with_count v n) ≡ task_effect d f v) → state_effect d f (with_count v n) ≡ state_effect d f v
    state_same task = type_same (text_in (value_in (codes "Type") d)) task
