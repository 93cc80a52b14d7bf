-- A step at another moment does the same but for moments, where no text of its state reads when the state was entered.
use Rattle.std.proofs.Common.{◌≡◌, inr, ℕ, List, [], ◌∷◌, ◌++◌, true, refl, ap, ◌∙◌, cond, Option, Some, None, option_map}
use Rattle.std.specs.Prelude.{Ok, Err, codes, pos}
use Rattle.std.specs.Fmt.{decimal, signed_decimal}
use Rattle.asl_json_data.specs.Data.{Data, text, number, dict, pairs}
use Rattle.asl_json.specs.View.{data_of}
use Rattle.asl_json.specs.Same.{bytes_eq}
use Rattle.asl_json.specs.Meaning.{value_in}
use Rattle.asl_json.specs.declared.value.Json.{Json}
use Rattle.asl_json.specs.declared.value.Json.TheVariants.{Dict, List as ListOf}
use Rattle.asl_time.specs.StampText.{stamp_of}
use Rattle.asl_def_schema.specs.Claims.{item_count}
use Rattle.asl_history.specs.declared.kind.EventKind.{EventKind}
use Rattle.asl_history.specs.declared.kind.EventKind.TheVariants.{PassStateEntered, PassStateExited, SucceedStateEntered, SucceedStateExited, FailStateEntered, ChoiceStateEntered, ChoiceStateExited, WaitStateEntered, WaitStateExited, TaskStateEntered, TaskStateExited, TaskScheduled, TaskStarted, TaskSucceeded, TaskFailed, ParallelStateEntered, ParallelStateExited, ParallelStateStarted, ParallelStateSucceeded, ParallelStateFailed, MapStateEntered, MapStateExited, MapStateStarted, MapStateSucceeded, MapStateFailed}
use Rattle.asl_mock.specs.Answers.{answer_to}
use Rattle.asl_mock.specs.declared.response.Answer.{Answer}
use Rattle.asl_mock.specs.declared.response.Answer.TheVariants.{Returns, Throws}
use Rattle.asl_handle.specs.Decisions.{handlers_in}
use Rattle.asl_def_shared.specs.Texts.{text_in}
use Rattle.asl_step.specs.declared.effect.Effect.{Effect}
use Rattle.asl_step.specs.declared.effect.Progress.{Progress}
use Rattle.asl_step.specs.declared.facts.Facts.{Facts}
use Rattle.asl_step.specs.declared.record.ErrorOut.{ErrorOut}
use Rattle.asl_step.specs.Records.{name_in, uses_in, entered_at, entering_with, beginning_with, pausing_with}
use Rattle.asl_step.specs.Seen.{Seen}
use Rattle.asl_step.specs.Context.{members_with, map_part, task_part, state_of, retry_count, execution_of, state_machine_of, context_of}
use Rattle.asl_step.specs.Rows.{idle, entering, beginning, telling, unstarted, failing, forking, error_output, is_within_limit, over_limit}
use Rattle.asl_step_io.specs.Paths.{Given, no_value, taken}
use Rattle.asl_step_io.specs.Delay.{seconds_of, moment_of, seconds_at, moment_at}
use Rattle.asl_kinds.specs.Members.{next_in, effective, pass_output, passed_on, selected, fail_error, GivenTarget, choice_output, GivenMoment, moment_or, later, until_by, wait_by, wait_until, no_answer}
use Rattle.asl_kinds.specs.Forks.{in_iteration, starts_in, ready_at, GivenFork, forked_with, first_error, outputs, gathered}
use Rattle.asl_kinds.specs.Table.{in_one, passed, pass_effect, succeed_effect, begun, fail_effect, decided, choice_effect, waits, wait_over, wait_with, wait_effect, invoked, task_settled, task_fails, task_returns, task_answered, task_with, task_effect, fork_settled, joined_by, parallel_forks, parallel_joins, parallel_with, parallel_effect, length_body, fork_of, map_forks, map_joins, map_with, map_effect, effect_by_type}
use Rattle.asl_step_reads.specs.Reading.{AreEqualBut}
use Rattle.asl_step_reads.specs.Steps.{clock_keys, timeless, timeless_effect}
use Rattle.asl_step_reads.specs.Laws.{MomentsDontMatter}
use Rattle.asl_step_reads.proofs.Agreeing.{AllAgree, unread_agrees}
use Rattle.asl_step_reads.proofs.Forking.{fork_same}
use Rattle.asl_step_reads.proofs.Members.{effective_agrees, pass_agrees, selected_agrees, passed_agrees, choice_agrees, wait_agrees, fail_agrees}
use Rattle.asl_step_reads.proofs.Timing.{iteration_is, invokes_is, count_is, case_is, name_is, uses_is, entering_is, beginning_is, pausing_is, forked_is, error_is, outputs_are, entering_same, beginning_same, telling_same, idle_same, failing_same, chosen_same, leaving_same, pausing_same, forking_same, passed_same, settled_same}

-- ---- until when a Wait waits

-- both wait, or both fail with the same error
abbrev WaitAlike : GivenMoment → GivenMoment → Type 0
WaitAlike (Ok m) (Ok n) = Unit {0}
WaitAlike (Ok m) (Err e) = ⊥
WaitAlike (Err e) (Ok n) = ⊥
WaitAlike (Err e) (Err g) = e ≡ g

wait_self : (g : GivenMoment) → WaitAlike g g
wait_self (Ok m) = tt
wait_self (Err e) = refl

later_alike : (e : ErrorOut) (m n : ℕ) (o : Option ℕ) → WaitAlike (moment_or e (option_map (later m) o)) (moment_or e (option_map (later n) o))
later_alike e m n None = refl
later_alike e m n (Some s) = tt

until_alike : (s t : Option Data) (sp tp : Option (List ℕ)) (m n : ℕ) (y c : Data) → WaitAlike (until_by s sp t tp m y c) (until_by s sp t tp n y c)
until_alike (Some s) t sp tp m n y c = later_alike (no_value (codes "Seconds")) m n (seconds_of s)
until_alike None t (Some p) tp m n y c = later_alike (no_value (codes "SecondsPath")) m n (seconds_at p y c)
until_alike None (Some t) None tp m n y c = wait_self (moment_or (no_value (codes "Timestamp")) (moment_of t))
until_alike None None None (Some p) m n y c = wait_self (moment_or (no_value (codes "TimestampPath")) (moment_at p y c))
until_alike None None None None m n y c = refl

wait_alike : (d : Data) (m n : ℕ) (c : Data) (g : Given) → WaitAlike (wait_by d m c g) (wait_by d n c g)
wait_alike d m n c (Err e) = refl
wait_alike d m n c (Ok y) = until_alike (value_in (codes "Seconds") d) (value_in (codes "Timestamp") d) (text_in (value_in (codes "SecondsPath") d)) (text_in (value_in (codes "TimestampPath") d)) m n (data_of y) c

-- ---- what a state does whose type is none of the first ones

abbrev but_parallel : Data → Facts → List ℕ → Seen → Effect
but_parallel d f t w = cond (bytes_eq t (codes "Map")) (map_effect d f w) (idle w.current)

abbrev but_task : Data → Facts → List ℕ → Seen → Effect
but_task d f t w = cond (bytes_eq t (codes "Parallel")) (parallel_effect d f w) (but_parallel d f t w)

abbrev but_wait : Data → Facts → List ℕ → Seen → Effect
but_wait d f t w = cond (bytes_eq t (codes "Task")) (task_effect d f w) (but_task d f t w)

abbrev but_choice : Data → Facts → List ℕ → Seen → Effect
but_choice d f t w = cond (bytes_eq t (codes "Wait")) (wait_effect d f w) (but_wait d f t w)

abbrev but_fail : Data → Facts → List ℕ → Seen → Effect
but_fail d f t w = cond (bytes_eq t (codes "Choice")) (choice_effect d f w) (but_choice d f t w)

abbrev but_succeed : Data → Facts → List ℕ → Seen → Effect
but_succeed d f t w = cond (bytes_eq t (codes "Fail")) (fail_effect d f w) (but_fail d f t w)

abbrev but_pass : Data → Facts → List ℕ → Seen → Effect
but_pass d f t w = cond (bytes_eq t (codes "Succeed")) (succeed_effect d f w) (but_succeed d f t w)

-- ---- kinds

module _ (d : Data) (f : Facts) (u v : Seen) (same : timeless u ≡ timeless v) (agree : AllAgree (context_of f u) (context_of f v) d) where
  in_one_same : (g h : Json → Given) (entered exited : EventKind) (next : Option (List ℕ)) (o : Option Json) → ((x : Json) → g x ≡ h x) → timeless_effect (in_one g entered exited next u o) ≡ timeless_effect (in_one h entered exited next v o)
  in_one_same g h entered exited next (Some x) e = (λ i. timeless_effect (passed u (entering_same u v same entered x i) exited next (e x i))) ∙ passed_same u v same (entering v entered x) exited next (h x)
  in_one_same g h entered exited next None e = idle_same u v same

  begun_same : (does acts : Json → Effect) (o p : Option Json) → o ≡ p → ((x : Json) → timeless_effect (does x) ≡ timeless_effect (acts x)) → timeless_effect (begun does u o) ≡ timeless_effect (begun acts v p)
  begun_same does acts o p e each = ap (λ (o : Option Json). timeless_effect (begun does u o)) e ∙ by p
    where
      by : (p : Option Json) → timeless_effect (begun does u p) ≡ timeless_effect (begun acts v p)
      by (Some x) = each x
      by None = idle_same u v same

  pass_same : timeless_effect (pass_effect d f u) ≡ timeless_effect (pass_effect d f v)
  pass_same =
      ap (λ (o : Option Json). timeless_effect (in_one (λ x. pass_output d x (context_of f u)) PassStateEntered PassStateExited (next_in d) u o)) (entering_is u v same)
      ∙ in_one_same (λ x. pass_output d x (context_of f u)) (λ x. pass_output d x (context_of f v)) PassStateEntered PassStateExited (next_in d) (entering_with v.current) (λ x. pass_agrees (context_of f u) (context_of f v) d x agree)

  succeed_same : timeless_effect (succeed_effect d f u) ≡ timeless_effect (succeed_effect d f v)
  succeed_same =
      ap (λ (o : Option Json). timeless_effect (in_one (λ x. passed_on d x (context_of f u)) SucceedStateEntered SucceedStateExited None u o)) (entering_is u v same)
      ∙ in_one_same (λ x. passed_on d x (context_of f u)) (λ x. passed_on d x (context_of f v)) SucceedStateEntered SucceedStateExited None (entering_with v.current) (λ x. passed_agrees (context_of f u) (context_of f v) d x agree)

  fail_same : timeless_effect (fail_effect d f u) ≡ timeless_effect (fail_effect d f v)
  fail_same = begun_same (λ x. failing u (entering u FailStateEntered x) (fail_error d (data_of x) (context_of f u))) (λ x. failing v (entering v FailStateEntered x) (fail_error d (data_of x) (context_of f v))) (entering_with u.current) (entering_with v.current) (entering_is u v same) (λ x.
      (λ i. timeless_effect (failing u (entering_same u v same FailStateEntered x i) (fail_agrees (context_of f u) (context_of f v) d (data_of x) agree i)))
      ∙ failing_same u v same (entering v FailStateEntered x) (fail_error d (data_of x) (context_of f v)))

  decided_same : (done : Progress) (g : GivenTarget) → timeless_effect (decided u done g) ≡ timeless_effect (decided v done g)
  decided_same done (Ok g) = leaving_same u v same done ChoiceStateExited (Some g.0) g.1
  decided_same done (Err e) = failing_same u v same done e

  choice_same : timeless_effect (choice_effect d f u) ≡ timeless_effect (choice_effect d f v)
  choice_same = begun_same (λ x. decided u (entering u ChoiceStateEntered x) (choice_output d x (context_of f u))) (λ x. decided v (entering v ChoiceStateEntered x) (choice_output d x (context_of f v))) (entering_with u.current) (entering_with v.current) (entering_is u v same) (λ x.
      (λ i. timeless_effect (decided u (entering_same u v same ChoiceStateEntered x i) (choice_agrees (context_of f u) (context_of f v) d x agree i)))
      ∙ decided_same (entering v ChoiceStateEntered x) (choice_output d x (context_of f v)))

  -- ---- Wait

  waits_same : (done : Progress) (x : Json) (g h : GivenMoment) → WaitAlike g h → timeless_effect (waits u done x g) ≡ timeless_effect (waits v done x h)
  waits_same done x (Ok m) (Ok n) e = pausing_same u v same done x m n
  waits_same done x (Ok m) (Err h) e = absurd e
  waits_same done x (Err g) (Ok n) e = absurd e
  waits_same done x (Err g) (Err h) e = ap (λ (e : ErrorOut). timeless_effect (failing u done e)) e ∙ failing_same u v same done h

  over_same : (o : Option Json) → timeless_effect (wait_over d f u o) ≡ timeless_effect (wait_over d f v o)
  over_same (Some x) =
      (λ i. timeless_effect (passed u unstarted WaitStateExited (next_in d) (passed_agrees (context_of f u) (context_of f v) d x agree i)))
      ∙ passed_same u v same unstarted WaitStateExited (next_in d) (passed_on d x (context_of f v))
  over_same None = idle_same u v same

  wait_with_same : (o : Option Json) → timeless_effect (wait_with d f u o) ≡ timeless_effect (wait_with d f v o)
  wait_with_same (Some x) =
      (λ i. timeless_effect (waits u (entering_same u v same WaitStateEntered x i) x (wait_agrees (context_of f u) (context_of f v) d u.moment x agree i)))
      ∙ waits_same (entering v WaitStateEntered x) x (wait_until d u.moment x (context_of f v)) (wait_until d v.moment x (context_of f v)) (wait_alike d u.moment v.moment (context_of f v) (taken (codes "InputPath") (value_in (codes "InputPath") d) x (context_of f v)))
  wait_with_same None = ap (λ (o : Option Json). timeless_effect (wait_over d f u o)) (pausing_is u v same) ∙ over_same (pausing_with v.current)

  wait_same : timeless_effect (wait_effect d f u) ≡ timeless_effect (wait_effect d f v)
  wait_same = ap (λ (o : Option Json). timeless_effect (wait_with d f u o)) (entering_is u v same) ∙ wait_with_same (entering_with v.current)

  -- ---- Task

  task_settled_same : (done : Progress) (x : Json) (g : Given) → timeless_effect (task_settled d u done x g) ≡ timeless_effect (task_settled d v done x g)
  task_settled_same done x g = settled_same u v same (value_in (codes "Retry") d) (value_in (codes "Catch") d) (next_in d) done TaskStateExited x g

  task_fails_same : (done : Progress) (x : Json) (e : ErrorOut) → timeless_effect (task_fails d u done x e) ≡ timeless_effect (task_fails d v done x e)
  task_fails_same done x e =
      (λ i. timeless_effect (task_settled d u (telling_same u v same done TaskFailed (error_output e) i) x (Err e)))
      ∙ task_settled_same (telling v done TaskFailed (error_output e)) x (Err e)

  task_returns_same : (done : Progress) (x r : Json) → timeless_effect (task_returns d (context_of f u) u done x r) ≡ timeless_effect (task_returns d (context_of f v) v done x r)
  task_returns_same done x r =
      (λ i. timeless_effect (task_settled d u (telling_same u v same done TaskSucceeded r i) x (selected_agrees (context_of f u) (context_of f v) d x r agree i)))
      ∙ task_settled_same (telling v done TaskSucceeded r) x (selected d x (context_of f v) r)

  answered_same : (done : Progress) (x : Json) (o : Option Answer) → timeless_effect (task_answered d (context_of f u) u done x o) ≡ timeless_effect (task_answered d (context_of f v) v done x o)
  answered_same done x (Some (Returns r)) = chosen_same u v same (is_within_limit r) (λ w. task_returns d (context_of f w) w done x r) (λ w. task_fails d w done x over_limit) (task_returns_same done x r) (task_fails_same done x over_limit)
  answered_same done x (Some (Throws error cause)) = task_fails_same done x (record { error = Some error; cause = cause })
  answered_same done x None = task_fails_same done x no_answer

  invoked_same : (done : Progress) (y : Json) → invoked u done y ≡ invoked v done y
  invoked_same done y = λ i. record { children = done.children; raises = true; events = (told i).events }
    where
      told : telling u (telling u done TaskScheduled y) TaskStarted (Dict []) ≡ telling v (telling v done TaskScheduled y) TaskStarted (Dict [])
      told = ap (λ (p : Progress). telling u p TaskStarted (Dict [])) (telling_same u v same done TaskScheduled y) ∙ telling_same u v same (telling v done TaskScheduled y) TaskStarted (Dict [])

  task_with_same : (done : Progress) (x : Json) (g : Given) → timeless_effect (task_with d (context_of f u) u done x g) ≡ timeless_effect (task_with d (context_of f v) v done x g)
  task_with_same done x (Ok y) =
      (λ i. timeless_effect (task_answered d (context_of f u) u (invoked_same done y i) x (answer_to (case_is u v same i) (name_is u v same i) (count_is u v same i))))
      ∙ answered_same (invoked v done y) x (answer_to v.case (name_in v.current) v.count)
  task_with_same done x (Err e) = task_settled_same done x (Err e)

  task_same : timeless_effect (task_effect d f u) ≡ timeless_effect (task_effect d f v)
  task_same = begun_same (λ x. task_with d (context_of f u) u (beginning u TaskStateEntered x) x (effective d x (context_of f u))) (λ x. task_with d (context_of f v) v (beginning v TaskStateEntered x) x (effective d x (context_of f v))) (beginning_with u.current) (beginning_with v.current) (beginning_is u v same) (λ x.
      (λ i. timeless_effect (task_with d (context_of f u) u (beginning_same u v same TaskStateEntered x i) x (effective_agrees (context_of f u) (context_of f v) d x agree i)))
      ∙ task_with_same (beginning v TaskStateEntered x) x (effective d x (context_of f v)))

  -- ---- states that fork

  fork_settled_same : (exited : EventKind) (done : Progress) (x : Json) (g : Given) → timeless_effect (fork_settled exited d u done x g) ≡ timeless_effect (fork_settled exited d v done x g)
  fork_settled_same exited done x g = settled_same u v same (value_in (codes "Retry") d) (value_in (codes "Catch") d) (next_in d) done exited x g

  joined_by_same : (succeeded failed exited : EventKind) (x : Json) (o : Option ErrorOut) (ds : Option (List Data)) → timeless_effect (joined_by succeeded failed exited d (context_of f u) u x o ds) ≡ timeless_effect (joined_by succeeded failed exited d (context_of f v) v x o ds)
  joined_by_same succeeded failed exited x (Some e) ds =
      (λ i. timeless_effect (fork_settled exited d u (telling_same u v same gathered failed (error_output e) i) x (Err e)))
      ∙ fork_settled_same exited (telling v gathered failed (error_output e)) x (Err e)
  joined_by_same succeeded failed exited x None (Some ds) =
      (λ i. timeless_effect (fork_settled exited d u (telling_same u v same gathered succeeded (Dict []) i) x (selected_agrees (context_of f u) (context_of f v) d x (ListOf ds) agree i)))
      ∙ fork_settled_same exited (telling v gathered succeeded (Dict [])) x (selected d x (context_of f v) (ListOf ds))
  joined_by_same succeeded failed exited x None None = idle_same u v same

  joined_same : (succeeded failed exited : EventKind) (x : Json) → timeless_effect (joined_by succeeded failed exited d (context_of f u) u x (first_error u.children) (outputs u.children)) ≡ timeless_effect (joined_by succeeded failed exited d (context_of f v) v x (first_error v.children) (outputs v.children))
  joined_same succeeded failed exited x =
      (λ i. timeless_effect (joined_by succeeded failed exited d (context_of f u) u x (error_is u v same i) (outputs_are u v same i)))
      ∙ joined_by_same succeeded failed exited x (first_error v.children) (outputs v.children)

  -- ---- Parallel

  parallel_forks_same : (done : Progress) (x : Json) (g : Given) → timeless_effect (parallel_forks d u done x g) ≡ timeless_effect (parallel_forks d v done x g)
  parallel_forks_same done x (Ok y) =
      let retriers = item_count (handlers_in (value_in (codes "Retry") d)) in
      let branches = ready_at (starts_in (value_in (codes "Branches") d)) y in
      (λ i. timeless_effect (forking u (telling_same u v same done ParallelStateStarted (Dict []) i) x retriers [] branches))
      ∙ forking_same u v same (telling v done ParallelStateStarted (Dict [])) x retriers [] branches
  parallel_forks_same done x (Err e) = fork_settled_same ParallelStateExited done x (Err e)

  parallel_joins_same : (o : Option Json) → timeless_effect (parallel_joins d (context_of f u) u o) ≡ timeless_effect (parallel_joins d (context_of f v) v o)
  parallel_joins_same (Some x) = joined_same ParallelStateSucceeded ParallelStateFailed ParallelStateExited x
  parallel_joins_same None = idle_same u v same

  parallel_with_same : (o : Option Json) → timeless_effect (parallel_with d (context_of f u) u o) ≡ timeless_effect (parallel_with d (context_of f v) v o)
  parallel_with_same (Some x) =
      (λ i. timeless_effect (parallel_forks d u (beginning_same u v same ParallelStateEntered x i) x (effective_agrees (context_of f u) (context_of f v) d x agree i)))
      ∙ parallel_forks_same (beginning v ParallelStateEntered x) x (effective d x (context_of f v))
  parallel_with_same None =
      ap (λ (o : Option Json). timeless_effect (parallel_joins d (context_of f u) u o)) (forked_is u v same)
      ∙ parallel_joins_same (forked_with v.current)

  parallel_same : timeless_effect (parallel_effect d f u) ≡ timeless_effect (parallel_effect d f v)
  parallel_same = ap (λ (o : Option Json). timeless_effect (parallel_with d (context_of f u) u o)) (beginning_is u v same) ∙ parallel_with_same (beginning_with v.current)

  -- ---- Map

  map_forks_same : (done : Progress) (x : Json) (g : GivenFork) → timeless_effect (map_forks d u done x g) ≡ timeless_effect (map_forks d v done x g)
  map_forks_same done x (Ok g) =
      let retriers = item_count (handlers_in (value_in (codes "Retry") d)) in
      (λ i. timeless_effect (forking u (telling_same u v same done MapStateStarted (length_body g.0) i) x retriers g.0 g.1))
      ∙ forking_same u v same (telling v done MapStateStarted (length_body g.0)) x retriers g.0 g.1
  map_forks_same done x (Err e) = fork_settled_same MapStateExited done x (Err e)

  map_joins_same : (o : Option Json) → timeless_effect (map_joins d (context_of f u) u o) ≡ timeless_effect (map_joins d (context_of f v) v o)
  map_joins_same (Some x) = joined_same MapStateSucceeded MapStateFailed MapStateExited x
  map_joins_same None = idle_same u v same

  module _ (inside : (i : ℕ) (x : Data) → AllAgree (context_of f (in_iteration u i x)) (context_of f (in_iteration v i x)) d) where
    map_with_same : (o : Option Json) → timeless_effect (map_with d f u o) ≡ timeless_effect (map_with d f v o)
    map_with_same (Some x) =
        (λ i. timeless_effect (map_forks d u (beginning_same u v same MapStateEntered x i) x (fork_same d f u v agree inside x i)))
        ∙ map_forks_same (beginning v MapStateEntered x) x (fork_of d f v x)
    map_with_same None =
        ap (λ (o : Option Json). timeless_effect (map_joins d (context_of f u) u o)) (forked_is u v same)
        ∙ map_joins_same (forked_with v.current)

    map_same : timeless_effect (map_effect d f u) ≡ timeless_effect (map_effect d f v)
    map_same = ap (λ (o : Option Json). timeless_effect (map_with d f u o)) (beginning_is u v same) ∙ map_with_same (beginning_with v.current)

    -- ---- a state of any type

    type_same : (o : Option (List ℕ)) → timeless_effect (effect_by_type o d f u) ≡ timeless_effect (effect_by_type o d f v)
    type_same None = idle_same u v same
    type_same (Some t) =
        chosen_same u v same (bytes_eq t (codes "Pass")) (pass_effect d f) (but_pass d f t) pass_same
        (chosen_same u v same (bytes_eq t (codes "Succeed")) (succeed_effect d f) (but_succeed d f t) succeed_same
        (chosen_same u v same (bytes_eq t (codes "Fail")) (fail_effect d f) (but_fail d f t) fail_same
        (chosen_same u v same (bytes_eq t (codes "Choice")) (choice_effect d f) (but_choice d f t) choice_same
        (chosen_same u v same (bytes_eq t (codes "Wait")) (wait_effect d f) (but_wait d f t) wait_same
        (chosen_same u v same (bytes_eq t (codes "Task")) (task_effect d f) (but_task d f t) task_same
        (chosen_same u v same (bytes_eq t (codes "Parallel")) (parallel_effect d f) (but_parallel d f t) parallel_same
        (chosen_same u v same (bytes_eq t (codes "Map")) (map_effect d f) (λ w. idle w.current) map_same (idle_same u v same))))))))

-- ---- their Context Objects

-- the token of a Task, by the name of its state and its count
abbrev token_by : Facts → List ℕ → ℕ → Data
token_by f n k = dict (pairs ((codes "Token", text (codes "token:" ++ (f.name ++ (codes ":" ++ (n ++ (codes ":" ++ decimal k)))))) ∷ []))

pub clock_but : (f : Facts) (u v : Seen) → timeless u ≡ timeless v → AreEqualBut clock_keys (context_of f u) (context_of f v)
unfolding context_of
clock_but f u v same = inr (record {
  before = (codes "Execution", execution_of f) ∷ (codes "StateMachine", state_machine_of f) ∷ [];
  after = map_part v.iteration ++ task_part f v;
  one = state_of u.moment u.current;
  other = state_of v.moment v.current;
  a_is = λ i. dict (pairs (members_with f ((codes "State", state_of u.moment u.current) ∷ (map_part (iteration_is u v same i) ++ cond (invokes_is u v same i) ((codes "Task", token_by f (name_is u v same i) (count_is u v same i)) ∷ []) []))));
  b_is = refl;
  first = refl;
  related = inr (record {
    before = (codes "Name", text (name_in v.current)) ∷ [];
    after = (codes "RetryCount", number (signed_decimal (pos (retry_count (uses_in v.current))))) ∷ [];
    one = text (stamp_of (entered_at u.moment u.current));
    other = text (stamp_of (entered_at v.moment v.current));
    a_is = λ i. dict (pairs ((codes "Name", text (name_is u v same i)) ∷ (codes "EnteredTime", text (stamp_of (entered_at u.moment u.current))) ∷ (codes "RetryCount", number (signed_decimal (pos (retry_count (uses_is u v same i))))) ∷ []));
    b_is = refl;
    first = refl;
    related = tt;
  });
})

pub moments : MomentsDontMatter
moments d f u v unread same =
    type_same d f u v same
    (unread_agrees clock_keys (context_of f u) (context_of f v) d (clock_but f u v same) unread)
    (λ i x. unread_agrees clock_keys (context_of f (in_iteration u i x)) (context_of f (in_iteration v i x)) d (clock_but f (in_iteration u i x) (in_iteration v i x) (λ j. in_iteration (same j) i x)) unread)
    (text_in (value_in (codes "Type") d))
