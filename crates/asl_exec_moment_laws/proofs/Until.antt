-- A step that is taken no later, by a branch that waits no longer, leaves one that waits no longer.
use Rattle.std.proofs.Common.{◌≡◌, ◌≤◌, ◌*◌, ℕ, List, [], Bool, true, false, refl, sym, arith, cond, subst, Option, Some, None, option_map}
use Rattle.std.specs.Prelude.{Ok, Err, codes, nat_lt}
use Rattle.asl_json_data.specs.Data.{Data}
use Rattle.asl_json.specs.View.{data_of}
use Rattle.asl_json.specs.Same.{bytes_eq}
use Rattle.asl_json.specs.Meaning.{value_in}
use Rattle.asl_json.specs.declared.value.Json.{Json}
use Rattle.asl_json.specs.declared.value.Json.TheVariants.{Dict, List as ListOf}
use Rattle.asl_def_fields.specs.Retries.{attempts_of}
use Rattle.asl_history.specs.declared.kind.EventKind.{EventKind}
use Rattle.asl_history.specs.declared.kind.EventKind.TheVariants.{PassStateEntered, PassStateExited, SucceedStateEntered, SucceedStateExited, FailStateEntered, ChoiceStateEntered, ChoiceStateExited, WaitStateEntered, WaitStateExited, TaskStateEntered, TaskStateExited, TaskFailed, TaskSucceeded, ParallelStateEntered, ParallelStateExited, ParallelStateSucceeded, ParallelStateFailed, MapStateEntered, MapStateExited, MapStateSucceeded, MapStateFailed}
use Rattle.asl_mock.specs.Answers.{answer_to}
use Rattle.asl_mock.specs.declared.response.Answer.{Answer}
use Rattle.asl_mock.specs.declared.response.Answer.TheVariants.{Returns, Throws}
use Rattle.asl_handle.specs.Decisions.{again, handlers_in, first_for, used, wait_after, delayed, retried, caught_by, decision}
use Rattle.asl_def_shared.specs.Texts.{text_in}
use Rattle.asl_step.specs.declared.effect.Effect.{Effect}
use Rattle.asl_step.specs.declared.effect.Progress.{Progress}
use Rattle.asl_step.specs.declared.facts.Facts.{Facts}
use Rattle.asl_step.specs.declared.record.ErrorOut.{ErrorOut}
use Rattle.asl_step.specs.declared.record.Record.{Record}
use Rattle.asl_step.specs.declared.record.Record.TheVariants.{New, Ready, Pausing, Again, Forked, Done, Failed}
use Rattle.asl_step.specs.Records.{name_in, uses_in, entering_with, beginning_with, pausing_with, error_name}
use Rattle.asl_step.specs.Seen.{Seen}
use Rattle.asl_step.specs.Context.{context_of}
use Rattle.asl_step.specs.Rows.{idle, entering, beginning, telling, unstarted, left, failing, leaving, error_output, is_within_limit, over_limit}
use Rattle.asl_step_io.specs.Paths.{Given, no_value, put_into, taken}
use Rattle.asl_step_io.specs.Delay.{seconds_of, moment_of, seconds_at, moment_at}
use Rattle.asl_kinds.specs.Members.{next_in, effective, pass_output, passed_on, selected, fail_error, GivenTarget, choice_output, GivenMoment, moment_or, later, until_by, wait_by, wait_until, no_answer}
use Rattle.asl_kinds.specs.Forks.{in_iteration, GivenFork, forked_with, first_error, outputs, gathered}
use Rattle.asl_kinds.specs.Table.{passed, in_one, pass_effect, succeed_effect, begun, fail_effect, decided, choice_effect, waits, wait_over, wait_with, wait_effect, handled, raised, settled, invoked, task_fails, task_answered, task_with, task_effect, fork_settled, joined_by, joined, parallel_forks, parallel_joins, parallel_with, parallel_effect, fork_of, map_forks, map_joins, map_with, map_effect, effect_by_type, state_effect}
use Rattle.asl_step_reads.specs.Reading.{reads}
use Rattle.asl_step_reads.specs.Steps.{clock_keys, timeless}
use Rattle.asl_step_reads.proofs.Agreeing.{AllAgree, unread_agrees}
use Rattle.asl_step_reads.proofs.Forking.{fork_same}
use Rattle.asl_step_reads.proofs.Members.{effective_agrees, selected_agrees, wait_agrees}
use Rattle.asl_step_reads.proofs.Timing.{case_is, name_is, count_is, uses_is, entering_is, beginning_is, pausing_is, forked_is, error_is, outputs_are}
use Rattle.asl_step_reads.proofs.Clock.{clock_but}

-- until when a branch waits; 0 where it doesn't
abbrev pub until_in : Record → ℕ
until_in (New n x) = 0
until_in (Ready n x) = 0
until_in (Pausing n x since until) = until
until_in (Again n x since uses until) = until
until_in (Forked n x since uses items) = 0
until_in (Done x) = 0
until_in (Failed e) = 0

-- the first leaves a branch that waits no longer than what the second leaves
pub record IsSooner (e g : Effect) : Type 0 where
  pub sooner : until_in e.after ≤ until_in g.after

-- what waits for no moment is the soonest
soonest : (e g : Effect) → until_in e.after ≡ 0 → IsSooner e g
soonest e g h = record { sooner = omega arith }

by-test : {a b x y : Effect} (c : Bool) → IsSooner a b → IsSooner x y → IsSooner (cond c a x) (cond c b y)
by-test true h k = h
by-test false h k = k

-- ---- a state that is left, or a branch that fails, waits for nothing

leaves : (w : Seen) (done : Progress) (exited : EventKind) (next : Option (List ℕ)) (x : Json) → until_in (leaving w done exited next x).after ≡ 0
leaves w done exited next x = by (is_within_limit x) next
  where
    by : (c : Bool) (next : Option (List ℕ)) → until_in (cond c (left w done exited next x) (failing w done over_limit)).after ≡ 0
    by true None = refl
    by true (Some n) = refl
    by false next = refl

passes : (w : Seen) (done : Progress) (exited : EventKind) (next : Option (List ℕ)) (g : Given) → until_in (passed w done exited next g).after ≡ 0
passes w done exited next (Ok z) = leaves w done exited next z
passes w done exited next (Err e) = refl

handles : (retry : Option Data) (w : Seen) (done : Progress) (exited : EventKind) (x : Json) (e : ErrorOut) (o : Option (ℕ × Data)) → until_in (handled retry w done exited x e (caught_by o)).after ≡ 0
handles retry w done exited x e None = refl
handles retry w done exited x e (Some c) = passes w done exited (next_in c.1) (put_into (value_in (codes "ResultPath") c.1) x (error_output e))

decides : (w : Seen) (done : Progress) (g : GivenTarget) → until_in (decided w done g).after ≡ 0
decides w done (Ok g) = leaves w done ChoiceStateExited (Some g.0) g.1
decides w done (Err e) = refl

-- ---- until when a Wait waits

abbrev MomentsGrow : GivenMoment → GivenMoment → Type 0
MomentsGrow (Ok m) (Ok n) = m ≤ n
MomentsGrow (Ok m) (Err e) = ⊥
MomentsGrow (Err e) g = Unit {0}

grow-self : (g : GivenMoment) → MomentsGrow g g
grow-self (Ok m) = omega arith
grow-self (Err e) = tt

delayed-grows : (m n k : ℕ) → m ≤ n → delayed m k ≤ delayed n k
delayed-grows m n k h = omega arith

later-grows : (e : ErrorOut) (m n : ℕ) (o : Option ℕ) → m ≤ n → MomentsGrow (moment_or e (option_map (later m) o)) (moment_or e (option_map (later n) o))
later-grows e m n None h = tt
later-grows e m n (Some k) h = delayed-grows m n (k * 1000) h

until-grows : (s t : Option Data) (sp tp : Option (List ℕ)) (m n : ℕ) (y c : Data) → m ≤ n → MomentsGrow (until_by s sp t tp m y c) (until_by s sp t tp n y c)
until-grows (Some s) t sp tp m n y c h = later-grows (no_value (codes "Seconds")) m n (seconds_of s) h
until-grows None t (Some p) tp m n y c h = later-grows (no_value (codes "SecondsPath")) m n (seconds_at p y c) h
until-grows None (Some t) None tp m n y c h = grow-self (moment_or (no_value (codes "Timestamp")) (moment_of t))
until-grows None None None (Some p) m n y c h = grow-self (moment_or (no_value (codes "TimestampPath")) (moment_at p y c))
until-grows None None None None m n y c h = tt

wait-grows : (d : Data) (m n : ℕ) (c : Data) (g : Given) → m ≤ n → MomentsGrow (wait_by d m c g) (wait_by d n c g)
wait-grows d m n c (Err e) h = tt
wait-grows d m n c (Ok y) h = until-grows (value_in (codes "Seconds") d) (value_in (codes "Timestamp") d) (text_in (value_in (codes "SecondsPath") d)) (text_in (value_in (codes "TimestampPath") d)) m n (data_of y) c h

-- ---- kinds

module _ (d : Data) (f : Facts) (u v : Seen) (same : timeless u ≡ timeless v) (early : u.moment ≤ v.moment) (waits-less : until_in u.current ≤ until_in v.current) (agree : AllAgree (context_of f u) (context_of f v) d) where
  idle-sooner : IsSooner (idle u.current) (idle v.current)
  idle-sooner = record { sooner = waits-less }

  one-sooner : (g h : Json → Given) (entered exited : EventKind) (next : Option (List ℕ)) (o : Option Json) → IsSooner (in_one g entered exited next u o) (in_one h entered exited next v o)
  one-sooner g h entered exited next (Some x) = soonest _ _ (passes u (entering u entered x) exited next (g x))
  one-sooner g h entered exited next None = idle-sooner

  begun-sooner : (does acts : Json → Effect) (o : Option Json) → ((x : Json) → IsSooner (does x) (acts x)) → IsSooner (begun does u o) (begun acts v o)
  begun-sooner does acts (Some x) each = each x
  begun-sooner does acts None each = idle-sooner

  pass-sooner : IsSooner (pass_effect d f u) (pass_effect d f v)
  pass-sooner = subst (λ (o : Option Json). IsSooner (in_one (λ x. pass_output d x (context_of f u)) PassStateEntered PassStateExited (next_in d) u o) (pass_effect d f v)) (sym (entering_is u v same))
      (one-sooner (λ x. pass_output d x (context_of f u)) (λ x. pass_output d x (context_of f v)) PassStateEntered PassStateExited (next_in d) (entering_with v.current))

  succeed-sooner : IsSooner (succeed_effect d f u) (succeed_effect d f v)
  succeed-sooner = subst (λ (o : Option Json). IsSooner (in_one (λ x. passed_on d x (context_of f u)) SucceedStateEntered SucceedStateExited None u o) (succeed_effect d f v)) (sym (entering_is u v same))
      (one-sooner (λ x. passed_on d x (context_of f u)) (λ x. passed_on d x (context_of f v)) SucceedStateEntered SucceedStateExited None (entering_with v.current))

  fail-sooner : IsSooner (fail_effect d f u) (fail_effect d f v)
  fail-sooner =
      let does : Seen → Json → Effect = λ w x. failing w (entering w FailStateEntered x) (fail_error d (data_of x) (context_of f w)) in
      subst (λ (o : Option Json). IsSooner (begun (does u) u o) (fail_effect d f v)) (sym (entering_is u v same))
      (begun-sooner (does u) (does v) (entering_with v.current) (λ x. soonest _ _ refl))

  choice-sooner : IsSooner (choice_effect d f u) (choice_effect d f v)
  choice-sooner =
      let does : Seen → Json → Effect = λ w x. decided w (entering w ChoiceStateEntered x) (choice_output d x (context_of f w)) in
      subst (λ (o : Option Json). IsSooner (begun (does u) u o) (choice_effect d f v)) (sym (entering_is u v same))
      (begun-sooner (does u) (does v) (entering_with v.current) (λ x. soonest _ _ (decides u (entering u ChoiceStateEntered x) (choice_output d x (context_of f u)))))

  -- ---- Wait

  waits-sooner : (done made : Progress) (x : Json) (g h : GivenMoment) → MomentsGrow g h → IsSooner (waits u done x g) (waits v made x h)
  waits-sooner done made x (Ok m) (Ok n) e = record { sooner = e }
  waits-sooner done made x (Ok m) (Err h) e = absurd e
  waits-sooner done made x (Err g) h e = soonest _ _ refl

  over-sooner : (o : Option Json) → IsSooner (wait_over d f u o) (wait_over d f v o)
  over-sooner (Some x) = soonest _ _ (passes u unstarted WaitStateExited (next_in d) (passed_on d x (context_of f u)))
  over-sooner None = idle-sooner

  wait-with-sooner : (o : Option Json) → IsSooner (wait_with d f u o) (wait_with d f v o)
  wait-with-sooner (Some x) =
      subst (λ (g : GivenMoment). IsSooner (waits u (entering u WaitStateEntered x) x g) (wait_with d f v (Some x))) (sym (wait_agrees (context_of f u) (context_of f v) d u.moment x agree))
      (waits-sooner (entering u WaitStateEntered x) (entering v WaitStateEntered x) x (wait_until d u.moment x (context_of f v)) (wait_until d v.moment x (context_of f v)) (wait-grows d u.moment v.moment (context_of f v) (taken (codes "InputPath") (value_in (codes "InputPath") d) x (context_of f v)) early))
  wait-with-sooner None = subst (λ (o : Option Json). IsSooner (wait_over d f u o) (wait_over d f v (pausing_with v.current))) (sym (pausing_is u v same)) (over-sooner (pausing_with v.current))

  wait-sooner : IsSooner (wait_effect d f u) (wait_effect d f v)
  wait-sooner = subst (λ (o : Option Json). IsSooner (wait_with d f u o) (wait_effect d f v)) (sym (entering_is u v same)) (wait-with-sooner (entering_with v.current))

  -- ---- errors

  retried-sooner : (retry : Option Data) (done made : Progress) (exited : EventKind) (x : Json) (e : ErrorOut) (uses : List ℕ) (o c : Option (ℕ × Data)) → IsSooner (handled retry u done exited x e (retried uses u.moment o (caught_by c))) (handled retry v made exited x e (retried uses v.moment o (caught_by c)))
  retried-sooner retry done made exited x e uses None c = soonest _ _ (handles retry u done exited x e c)
  retried-sooner retry done made exited x e uses (Some r) c = by (nat_lt (used uses r.0) (attempts_of r.1))
    where
      by : (b : Bool) → IsSooner (handled retry u done exited x e (cond b (again r.0 (delayed u.moment (wait_after r.1 (used uses r.0)))) (caught_by c))) (handled retry v made exited x e (cond b (again r.0 (delayed v.moment (wait_after r.1 (used uses r.0)))) (caught_by c)))
      by true = record { sooner = delayed-grows u.moment v.moment (wait_after r.1 (used uses r.0)) early }
      by false = soonest _ _ (handles retry u done exited x e c)

  raised-sooner : (retry catch : Option Data) (done made : Progress) (exited : EventKind) (x : Json) (e : ErrorOut) → IsSooner (raised retry catch u done exited x e) (raised retry catch v made exited x e)
  raised-sooner retry catch done made exited x e =
      subst (λ (uses : List ℕ). IsSooner (handled retry u done exited x e (decision retry catch (error_name e) uses u.moment)) (raised retry catch v made exited x e)) (sym (uses_is u v same))
      (retried-sooner retry done made exited x e (uses_in v.current) (first_for (error_name e) 0 (handlers_in retry)) (first_for (error_name e) 0 (handlers_in catch)))

  settled-sooner : (retry catch : Option Data) (next : Option (List ℕ)) (done made : Progress) (exited : EventKind) (x : Json) (g : Given) → IsSooner (settled retry catch next u done exited x g) (settled retry catch next v made exited x g)
  settled-sooner retry catch next done made exited x (Ok z) = soonest _ _ (leaves u done exited next z)
  settled-sooner retry catch next done made exited x (Err e) = raised-sooner retry catch done made exited x e

  so-settled : (exited : EventKind) (done made : Progress) (x : Json) (g : Given) → IsSooner (fork_settled exited d u done x g) (fork_settled exited d v made x g)
  so-settled exited done made x g = settled-sooner (value_in (codes "Retry") d) (value_in (codes "Catch") d) (next_in d) done made exited x g

  -- with what ResultSelector makes of a result
  so-selected : (exited : EventKind) (done made : Progress) (x r : Json) → IsSooner (fork_settled exited d u done x (selected d x (context_of f u) r)) (fork_settled exited d v made x (selected d x (context_of f v) r))
  so-selected exited done made x r =
      subst (λ (g : Given). IsSooner (fork_settled exited d u done x g) (fork_settled exited d v made x (selected d x (context_of f v) r))) (sym (selected_agrees (context_of f u) (context_of f v) d x r agree))
      (so-settled exited done made x (selected d x (context_of f v) r))

  -- ---- Task

  task-fails-sooner : (done made : Progress) (x : Json) (e : ErrorOut) → IsSooner (task_fails d u done x e) (task_fails d v made x e)
  task-fails-sooner done made x e = so-settled TaskStateExited (telling u done TaskFailed (error_output e)) (telling v made TaskFailed (error_output e)) x (Err e)

  answered-sooner : (done made : Progress) (x : Json) (o : Option Answer) → IsSooner (task_answered d (context_of f u) u done x o) (task_answered d (context_of f v) v made x o)
  answered-sooner done made x (Some (Returns r)) =
      by-test (is_within_limit r)
      (so-selected TaskStateExited (telling u done TaskSucceeded r) (telling v made TaskSucceeded r) x r)
      (task-fails-sooner done made x over_limit)
  answered-sooner done made x (Some (Throws error cause)) = task-fails-sooner done made x (record { error = Some error; cause = cause })
  answered-sooner done made x None = task-fails-sooner done made x no_answer

  answer-is : answer_to u.case (name_in u.current) u.count ≡ answer_to v.case (name_in v.current) v.count
  answer-is = λ i. answer_to (case_is u v same i) (name_is u v same i) (count_is u v same i)

  task-with-sooner : (done made : Progress) (x : Json) (g : Given) → IsSooner (task_with d (context_of f u) u done x g) (task_with d (context_of f v) v made x g)
  task-with-sooner done made x (Ok y) =
      subst (λ (o : Option Answer). IsSooner (task_answered d (context_of f u) u (invoked u done y) x o) (task_with d (context_of f v) v made x (Ok y))) (sym answer-is)
      (answered-sooner (invoked u done y) (invoked v made y) x (answer_to v.case (name_in v.current) v.count))
  task-with-sooner done made x (Err e) = so-settled TaskStateExited done made x (Err e)

  task-sooner : IsSooner (task_effect d f u) (task_effect d f v)
  task-sooner =
      let does : Seen → Json → Effect = λ w x. task_with d (context_of f w) w (beginning w TaskStateEntered x) x (effective d x (context_of f w)) in
      subst (λ (o : Option Json). IsSooner (begun (does u) u o) (task_effect d f v)) (sym (beginning_is u v same))
      (begun-sooner (does u) (does v) (beginning_with v.current) (λ x.
      subst (λ (g : Given). IsSooner (task_with d (context_of f u) u (beginning u TaskStateEntered x) x g) (does v x)) (sym (effective_agrees (context_of f u) (context_of f v) d x agree))
      (task-with-sooner (beginning u TaskStateEntered x) (beginning v TaskStateEntered x) x (effective d x (context_of f v)))))

  -- ---- states that fork

  joined-by-sooner : (succeeded failed exited : EventKind) (x : Json) (o : Option ErrorOut) (ds : Option (List Data)) → IsSooner (joined_by succeeded failed exited d (context_of f u) u x o ds) (joined_by succeeded failed exited d (context_of f v) v x o ds)
  joined-by-sooner succeeded failed exited x (Some e) ds = so-settled exited (telling u gathered failed (error_output e)) (telling v gathered failed (error_output e)) x (Err e)
  joined-by-sooner succeeded failed exited x None (Some ds) = so-selected exited (telling u gathered succeeded (Dict [])) (telling v gathered succeeded (Dict [])) x (ListOf ds)
  joined-by-sooner succeeded failed exited x None None = idle-sooner

  joined-sooner : (succeeded failed exited : EventKind) (x : Json) → IsSooner (joined succeeded failed exited d (context_of f u) u x) (joined succeeded failed exited d (context_of f v) v x)
  joined-sooner succeeded failed exited x =
      subst (λ (o : Option ErrorOut). IsSooner (joined_by succeeded failed exited d (context_of f u) u x o (outputs u.children)) (joined succeeded failed exited d (context_of f v) v x)) (sym (error_is u v same))
      (subst (λ (ds : Option (List Data)). IsSooner (joined_by succeeded failed exited d (context_of f u) u x (first_error v.children) ds) (joined succeeded failed exited d (context_of f v) v x)) (sym (outputs_are u v same))
      (joined-by-sooner succeeded failed exited x (first_error v.children) (outputs v.children)))

  -- ---- Parallel

  parallel-forks-sooner : (done made : Progress) (x : Json) (g : Given) → IsSooner (parallel_forks d u done x g) (parallel_forks d v made x g)
  parallel-forks-sooner done made x (Ok y) = soonest _ _ refl
  parallel-forks-sooner done made x (Err e) = so-settled ParallelStateExited done made x (Err e)

  parallel-joins-sooner : (o : Option Json) → IsSooner (parallel_joins d (context_of f u) u o) (parallel_joins d (context_of f v) v o)
  parallel-joins-sooner (Some x) = joined-sooner ParallelStateSucceeded ParallelStateFailed ParallelStateExited x
  parallel-joins-sooner None = idle-sooner

  parallel-with-sooner : (o : Option Json) → IsSooner (parallel_with d (context_of f u) u o) (parallel_with d (context_of f v) v o)
  parallel-with-sooner (Some x) =
      subst (λ (g : Given). IsSooner (parallel_forks d u (beginning u ParallelStateEntered x) x g) (parallel_with d (context_of f v) v (Some x))) (sym (effective_agrees (context_of f u) (context_of f v) d x agree))
      (parallel-forks-sooner (beginning u ParallelStateEntered x) (beginning v ParallelStateEntered x) x (effective d x (context_of f v)))
  parallel-with-sooner None =
      subst (λ (o : Option Json). IsSooner (parallel_joins d (context_of f u) u o) (parallel_joins d (context_of f v) v (forked_with v.current))) (sym (forked_is u v same))
      (parallel-joins-sooner (forked_with v.current))

  parallel-sooner : IsSooner (parallel_effect d f u) (parallel_effect d f v)
  parallel-sooner = subst (λ (o : Option Json). IsSooner (parallel_with d (context_of f u) u o) (parallel_effect d f v)) (sym (beginning_is u v same)) (parallel-with-sooner (beginning_with v.current))

  -- ---- Map

  map-forks-sooner : (done made : Progress) (x : Json) (g : GivenFork) → IsSooner (map_forks d u done x g) (map_forks d v made x g)
  map-forks-sooner done made x (Ok g) = soonest _ _ refl
  map-forks-sooner done made x (Err e) = so-settled MapStateExited done made x (Err e)

  map-joins-sooner : (o : Option Json) → IsSooner (map_joins d (context_of f u) u o) (map_joins d (context_of f v) v o)
  map-joins-sooner (Some x) = joined-sooner MapStateSucceeded MapStateFailed MapStateExited x
  map-joins-sooner None = idle-sooner

  module _ (inside : (i : ℕ) (x : Data) → AllAgree (context_of f (in_iteration u i x)) (context_of f (in_iteration v i x)) d) where
    map-with-sooner : (o : Option Json) → IsSooner (map_with d f u o) (map_with d f v o)
    map-with-sooner (Some x) =
        subst (λ (g : GivenFork). IsSooner (map_forks d u (beginning u MapStateEntered x) x g) (map_with d f v (Some x))) (sym (fork_same d f u v agree inside x))
        (map-forks-sooner (beginning u MapStateEntered x) (beginning v MapStateEntered x) x (fork_of d f v x))
    map-with-sooner None =
        subst (λ (o : Option Json). IsSooner (map_joins d (context_of f u) u o) (map_joins d (context_of f v) v (forked_with v.current))) (sym (forked_is u v same))
        (map-joins-sooner (forked_with v.current))

    map-sooner : IsSooner (map_effect d f u) (map_effect d f v)
    map-sooner = subst (λ (o : Option Json). IsSooner (map_with d f u o) (map_effect d f v)) (sym (beginning_is u v same)) (map-with-sooner (beginning_with v.current))

    -- ---- a state of any type

    type-sooner : (o : Option (List ℕ)) → IsSooner (effect_by_type o d f u) (effect_by_type o d f v)
    type-sooner None = idle-sooner
    type-sooner (Some t) =
        by-test (bytes_eq t (codes "Pass")) pass-sooner
        (by-test (bytes_eq t (codes "Succeed")) succeed-sooner
        (by-test (bytes_eq t (codes "Fail")) fail-sooner
        (by-test (bytes_eq t (codes "Choice")) choice-sooner
        (by-test (bytes_eq t (codes "Wait")) wait-sooner
        (by-test (bytes_eq t (codes "Task")) task-sooner
        (by-test (bytes_eq t (codes "Parallel")) parallel-sooner
        (by-test (bytes_eq t (codes "Map")) map-sooner idle-sooner)))))))

-- where no text of the state reads when it was entered
pub waits-no-longer : (d : Data) (f : Facts) (u v : Seen) → reads clock_keys d ≡ false → timeless u ≡ timeless v → u.moment ≤ v.moment → until_in u.current ≤ until_in v.current → until_in (state_effect d f u).after ≤ until_in (state_effect d f v).after
waits-no-longer d f u v unread same early waits-less =
    (type-sooner d f u v same early waits-less
    (unread_agrees clock_keys (context_of f u) (context_of f v) d (clock_but f u v same) unread)
    (λ i x. unread_agrees clock_keys (context_of f (in_iteration u i x)) (context_of f (in_iteration v i x)) d (clock_but f (in_iteration u i x) (in_iteration v i x) (λ j. in_iteration (same j) i x)) unread)
    (text_in (value_in (codes "Type") d))).sooner
