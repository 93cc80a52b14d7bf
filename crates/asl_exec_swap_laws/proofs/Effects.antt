-- What states of any kind make of the branches under them, and read of them.
use Rattle.std.proofs.Common.{ℕ, ◌≡◌, ◌⊎◌, inl, inr, Bool, true, false, List, [], refl, sym, ◌∙◌, ap, Some, None, Option, if◌then◌else◌}
use Rattle.std.specs.Prelude.{Ok, Err, codes}
use Rattle.std.specs.Str.{bytes_eq}
use Rattle.std.proofs.lemmas.Bool.{both_ways}
use Rattle.asl_json_data.specs.Data.{Data}
use Rattle.asl_json.specs.Meaning.{value_in}
use Rattle.asl_json.specs.View.{data_of}
use Rattle.asl_json.specs.declared.value.Json.{Json}
use Rattle.asl_json.specs.declared.value.Json.TheVariants.{Dict, List as ListOf}
use Rattle.asl_history.specs.declared.kind.EventKind.{EventKind}
use Rattle.asl_history.specs.declared.kind.EventKind.TheVariants.{PassStateEntered, PassStateExited, SucceedStateEntered, SucceedStateExited, FailStateEntered, ChoiceStateEntered, ChoiceStateExited, WaitStateEntered, WaitStateExited, TaskStateEntered, TaskStateExited, TaskSucceeded, TaskFailed, ParallelStateEntered, ParallelStateExited, ParallelStateSucceeded, ParallelStateFailed, MapStateEntered, MapStateSucceeded, MapStateFailed, MapStateExited}
use Rattle.asl_def_shared.specs.Texts.{text_in}
use Rattle.asl_step.specs.Bounds.{is_forked}
use Rattle.asl_step.specs.Context.{context_of}
use Rattle.asl_step.specs.Records.{name_in, entering_with, beginning_with, pausing_with, uses_in, error_name}
use Rattle.asl_step.specs.Rows.{telling, error_output, left, idle, entering, unstarted, beginning_by, beginning, leaving, failing, is_within_limit, over_limit}
use Rattle.asl_step.specs.Seen.{Seen}
use Rattle.asl_step.specs.declared.effect.Children.{Children}
use Rattle.asl_step.specs.declared.effect.Children.TheVariants.{Kept, Removed}
use Rattle.asl_step.specs.declared.effect.Effect.{Effect}
use Rattle.asl_step.specs.declared.effect.Progress.{Progress}
use Rattle.asl_step.specs.declared.facts.Facts.{Facts}
use Rattle.asl_step.specs.declared.record.ErrorOut.{ErrorOut}
use Rattle.asl_step.specs.declared.record.Record.{Record}
use Rattle.asl_step.specs.declared.record.Record.TheVariants.{New, Ready, Pausing, Again, Forked, Done, Failed}
use Rattle.asl_mock.specs.Answers.{answer_to}
use Rattle.asl_mock.specs.declared.response.Answer.{Answer}
use Rattle.asl_mock.specs.declared.response.Answer.TheVariants.{Returns, Throws}
use Rattle.asl_handle.specs.Decisions.{Handling, again, caught, unhandled, decision}
use Rattle.asl_step_io.specs.Paths.{Given, put_into}
use Rattle.asl_kinds.specs.Members.{GivenTarget, GivenMoment, effective, next_in, pass_output, passed_on, fail_error, choice_output, wait_until, selected, no_answer}
use Rattle.asl_kinds.specs.Forks.{GivenFork, forked_with, first_error, outputs, gathered}
use Rattle.asl_kinds.specs.Table.{begun, task_settled, task_returns, task_fails, fork_settled, passed, in_one, fail_effect, decided, choice_effect, waits, wait_over, wait_with, handled, settled, task_answered, task_with, task_effect, joined_by, joined, parallel_forks, parallel_joins, parallel_with, fork_of, map_forks, map_joins, map_with, effect_by_type, invoked}
use Rattle.asl_exec.specs.Steps.{effect_by}
use Rattle.asl_exec_swap_laws.proofs.Rooted.{is_joining}

-- ---- a state that is left, retried or fails keeps what became of its branches

leaving-keeps : (v : Seen) (done : Progress) (exited : EventKind) (next : Option (List ℕ)) (x : Json) → (leaving v done exited next x).children ≡ done.children
leaving-keeps v done exited next x = by (is_within_limit x)
  where
    by : (b : Bool) → (if b then left v done exited next x else failing v done over_limit).children ≡ done.children
    by true = refl
    by false = refl

passed-keeps : (v : Seen) (done : Progress) (exited : EventKind) (next : Option (List ℕ)) (g : Given) → (passed v done exited next g).children ≡ done.children
passed-keeps v done exited next (Ok z) = leaving-keeps v done exited next z
passed-keeps v done exited next (Err e) = refl

handled-keeps : (retry : Option Data) (v : Seen) (done : Progress) (exited : EventKind) (x : Json) (e : ErrorOut) (h : Handling) → (handled retry v done exited x e h).children ≡ done.children
handled-keeps retry v done exited x e (again i until) = refl
handled-keeps retry v done exited x e (caught c) = passed-keeps v done exited (next_in c) (put_into (value_in (codes "ResultPath") c) x (error_output e))
handled-keeps retry v done exited x e unhandled = refl

settled-keeps : (retry catch : Option Data) (next : Option (List ℕ)) (v : Seen) (done : Progress) (exited : EventKind) (x : Json) (g : Given) → (settled retry catch next v done exited x g).children ≡ done.children
settled-keeps retry catch next v done exited x (Ok z) = leaving-keeps v done exited next z
settled-keeps retry catch next v done exited x (Err e) = handled-keeps retry v done exited x e (decision retry catch (error_name e) (uses_in v.current) v.moment)

task-keeps : (d : Data) (v : Seen) (done : Progress) (x : Json) (g : Given) → (task_settled d v done x g).children ≡ done.children
task-keeps d v done x g = settled-keeps (value_in (codes "Retry") d) (value_in (codes "Catch") d) (next_in d) v done TaskStateExited x g

fork-keeps : (exited : EventKind) (d : Data) (v : Seen) (done : Progress) (x : Json) (g : Given) → (fork_settled exited d v done x g).children ≡ done.children
fork-keeps exited d v done x g = settled-keeps (value_in (codes "Retry") d) (value_in (codes "Catch") d) (next_in d) v done exited x g

-- ---- where branches are made, the branch waits for them

abbrev pub IsMade : Effect → Type 0
IsMade e = is_forked e.children ≡ true → is_joining e.after ≡ true

unmade : (r : Record) (b c : Children) → b ≡ c → is_forked c ≡ false → is_forked b ≡ true → is_joining r ≡ true
unmade r b c is none h = absurd (both_ways (is_forked c) none (ap is_forked (sym is) ∙ h))

begin-kept : (v : Seen) (entered : EventKind) (x : Json) (r : Record) → is_forked (beginning_by v entered x r).children ≡ false
begin-kept v entered x (New n y) = refl
begin-kept v entered x (Ready n y) = refl
begin-kept v entered x (Pausing n y since until) = refl
begin-kept v entered x (Again n y since uses until) = refl
begin-kept v entered x (Forked n y since uses items) = refl
begin-kept v entered x (Done y) = refl
begin-kept v entered x (Failed e) = refl

in_one-made : (gives : Json → Given) (entered exited : EventKind) (next : Option (List ℕ)) (v : Seen) (o : Option Json) → IsMade (in_one gives entered exited next v o)
in_one-made gives entered exited next v (Some x) = unmade _ _ Kept (passed-keeps v (entering v entered x) exited next (gives x)) refl
in_one-made gives entered exited next v None = λ h. (cc)

fail-made : (d : Data) (f : Facts) (v : Seen) → IsMade (fail_effect d f v)
fail-made d f v = by (entering_with v.current)
  where
    by : (o : Option Json) → IsMade (begun (λ x. failing v (entering v FailStateEntered x) (fail_error d (data_of x) (context_of f v))) v o)
    by (Some x) = λ h. (cc)
    by None = λ h. (cc)

decided-made : (v : Seen) (x : Json) (g : GivenTarget) → IsMade (decided v (entering v ChoiceStateEntered x) g)
decided-made v x (Ok g) = unmade _ _ Kept (leaving-keeps v (entering v ChoiceStateEntered x) ChoiceStateExited (Some g.0) g.1) refl
decided-made v x (Err e) = λ h. (cc)

choice-made : (d : Data) (f : Facts) (v : Seen) → IsMade (choice_effect d f v)
choice-made d f v = by (entering_with v.current)
  where
    by : (o : Option Json) → IsMade (begun (λ x. decided v (entering v ChoiceStateEntered x) (choice_output d x (context_of f v))) v o)
    by (Some x) = decided-made v x (choice_output d x (context_of f v))
    by None = λ h. (cc)

waits-made : (v : Seen) (x : Json) (g : GivenMoment) → IsMade (waits v (entering v WaitStateEntered x) x g)
waits-made v x (Ok until) = λ h. (cc)
waits-made v x (Err e) = λ h. (cc)

over-made : (d : Data) (f : Facts) (v : Seen) (o : Option Json) → IsMade (wait_over d f v o)
over-made d f v (Some x) = unmade _ _ Kept (passed-keeps v unstarted WaitStateExited (next_in d) (passed_on d x (context_of f v))) refl
over-made d f v None = λ h. (cc)

wait-made : (d : Data) (f : Facts) (v : Seen) (o : Option Json) → IsMade (wait_with d f v o)
wait-made d f v (Some x) = waits-made v x (wait_until d v.moment x (context_of f v))
wait-made d f v None = over-made d f v (pausing_with v.current)

answered-made : (d c : Data) (v : Seen) (done : Progress) (x : Json) (a : Option Answer) → is_forked done.children ≡ false → IsMade (task_answered d c v done x a)
answered-made d c v done x (Some (Returns r)) none = by (is_within_limit r)
  where
    by : (b : Bool) → IsMade (if b then task_returns d c v done x r else task_fails d v done x over_limit)
    by true = unmade _ _ done.children (task-keeps d v (telling v done TaskSucceeded r) x (selected d x c r)) none
    by false = unmade _ _ done.children (task-keeps d v (telling v done TaskFailed (error_output over_limit)) x (Err over_limit)) none
answered-made d c v done x (Some (Throws error cause)) none =
    let e : ErrorOut = record { error = Some error; cause = cause } in
    unmade _ _ done.children (task-keeps d v (telling v done TaskFailed (error_output e)) x (Err e)) none
answered-made d c v done x None none = unmade _ _ done.children (task-keeps d v (telling v done TaskFailed (error_output no_answer)) x (Err no_answer)) none

tasked-made : (d c : Data) (v : Seen) (done : Progress) (x : Json) (g : Given) → is_forked done.children ≡ false → IsMade (task_with d c v done x g)
tasked-made d c v done x (Ok y) none = answered-made d c v (invoked v done y) x (answer_to v.case (name_in v.current) v.count) none
tasked-made d c v done x (Err e) none = unmade _ _ done.children (task-keeps d v done x (Err e)) none

task-made : (d : Data) (f : Facts) (v : Seen) → IsMade (task_effect d f v)
task-made d f v = by (beginning_with v.current)
  where
    by : (o : Option Json) → IsMade (begun (λ x. task_with d (context_of f v) v (beginning v TaskStateEntered x) x (effective d x (context_of f v))) v o)
    by (Some x) = tasked-made d (context_of f v) v (beginning v TaskStateEntered x) x (effective d x (context_of f v)) (begin-kept v TaskStateEntered x v.current)
    by None = λ h. (cc)

-- branches are joined: they are taken away, or go on
joined-takes : (succeeded failed exited : EventKind) (d c : Data) (v : Seen) (x : Json) (error : Option ErrorOut) (o : Option (List Data)) → ((joined_by succeeded failed exited d c v x error o).children ≡ Removed) ⊎ (joined_by succeeded failed exited d c v x error o ≡ idle v.current)
joined-takes succeeded failed exited d c v x (Some e) o = inl (fork-keeps exited d v (telling v gathered failed (error_output e)) x (Err e))
joined-takes succeeded failed exited d c v x None (Some ds) = inl (fork-keeps exited d v (telling v gathered succeeded (Dict [])) x (selected d x c (ListOf ds)))
joined-takes succeeded failed exited d c v x None None = inr refl

taken-made : (e : Effect) (r : Record) → (e.children ≡ Removed) ⊎ (e ≡ idle r) → IsMade e
taken-made e r (inl is) = unmade e.after e.children Removed is refl
taken-made e r (inr is) = unmade e.after e.children Kept (ap (λ (z : Effect). z.children) is) refl

forks-made : (d : Data) (v : Seen) (done : Progress) (x : Json) (g : Given) → is_forked done.children ≡ false → IsMade (parallel_forks d v done x g)
forks-made d v done x (Ok y) none = λ h. refl
forks-made d v done x (Err e) none = unmade _ _ done.children (fork-keeps ParallelStateExited d v done x (Err e)) none

parallel-made : (d c : Data) (v : Seen) (o : Option Json) → IsMade (parallel_with d c v o)
parallel-made d c v (Some x) = forks-made d v (beginning v ParallelStateEntered x) x (effective d x c) (begin-kept v ParallelStateEntered x v.current)
parallel-made d c v None = by (forked_with v.current)
  where
    by : (o : Option Json) → IsMade (parallel_joins d c v o)
    by (Some x) = taken-made (parallel_joins d c v (Some x)) v.current (joined-takes ParallelStateSucceeded ParallelStateFailed ParallelStateExited d c v x (first_error v.children) (outputs v.children))
    by None = λ h. (cc)

iterates-made : (d : Data) (v : Seen) (done : Progress) (x : Json) (g : GivenFork) → is_forked done.children ≡ false → IsMade (map_forks d v done x g)
iterates-made d v done x (Ok y) none = λ h. refl
iterates-made d v done x (Err e) none = unmade _ _ done.children (fork-keeps MapStateExited d v done x (Err e)) none

map-made : (d : Data) (f : Facts) (v : Seen) (o : Option Json) → IsMade (map_with d f v o)
map-made d f v (Some x) = iterates-made d v (beginning v MapStateEntered x) x (fork_of d f v x) (begin-kept v MapStateEntered x v.current)
map-made d f v None = by (forked_with v.current)
  where
    by : (o : Option Json) → IsMade (map_joins d (context_of f v) v o)
    by (Some x) = taken-made (map_joins d (context_of f v) v (Some x)) v.current (joined-takes MapStateSucceeded MapStateFailed MapStateExited d (context_of f v) v x (first_error v.children) (outputs v.children))
    by None = λ h. (cc)

-- ---- a state of any type

chosen : (b : Bool) (P : Effect → Type 0) (e f : Effect) → P e → P f → P (if b then e else f)
chosen true P e f h g = h
chosen false P e f h g = g

typed-made : (o : Option (List ℕ)) (d : Data) (f : Facts) (v : Seen) → IsMade (effect_by_type o d f v)
typed-made None d f v = λ h. (cc)
typed-made (Some t) d f v =
    chosen (bytes_eq t (codes "Pass")) IsMade _ _ (in_one-made (λ x. pass_output d x (context_of f v)) PassStateEntered PassStateExited (next_in d) v (entering_with v.current))
    (chosen (bytes_eq t (codes "Succeed")) IsMade _ _ (in_one-made (λ x. passed_on d x (context_of f v)) SucceedStateEntered SucceedStateExited None v (entering_with v.current))
    (chosen (bytes_eq t (codes "Fail")) IsMade _ _ (fail-made d f v)
    (chosen (bytes_eq t (codes "Choice")) IsMade _ _ (choice-made d f v)
    (chosen (bytes_eq t (codes "Wait")) IsMade _ _ (wait-made d f v (entering_with v.current))
    (chosen (bytes_eq t (codes "Task")) IsMade _ _ (task-made d f v)
    (chosen (bytes_eq t (codes "Parallel")) IsMade _ _ (parallel-made d (context_of f v) v (beginning_with v.current))
    (chosen (bytes_eq t (codes "Map")) IsMade _ _ (map-made d f v (beginning_with v.current))
    (λ h. (cc)))))))))

pub effect-made : (o : Option Data) (f : Facts) (v : Seen) → IsMade (effect_by o f v)
effect-made None f v = λ h. (cc)
effect-made (Some d) f v = typed-made (text_in (value_in (codes "Type") d)) d f v

-- ---- a branch that waits for others

-- what a step may read of it
abbrev pub waiting : Seen → List ℕ → Json → ℕ → List ℕ → List Data → List Record → Seen
waiting v n x since uses items rs = record {
  place = v.place;
  current = Forked n x since uses items;
  children = rs;
  forker = v.forker;
  iteration = v.iteration;
  invokes = v.invokes;
  count = v.count;
  case = v.case;
  moment = v.moment;
}

module _ (f : Facts) (v : Seen) (n : List ℕ) (x : Json) (since : ℕ) (uses : List ℕ) (items : List Data) where
  -- it takes them away, or nothing happens
  abbrev Takes : List Record → Effect → Type 0
  Takes rs e = (e.children ≡ Removed) ⊎ (e ≡ idle (Forked n x since uses items))

  typed-takes : (o : Option (List ℕ)) (d : Data) (rs : List Record) → Takes rs (effect_by_type o d f (waiting v n x since uses items rs))
  typed-takes None d rs = inr refl
  typed-takes (Some t) d rs =
      chosen (bytes_eq t (codes "Pass")) (Takes rs) _ _ (inr refl)
      (chosen (bytes_eq t (codes "Succeed")) (Takes rs) _ _ (inr refl)
      (chosen (bytes_eq t (codes "Fail")) (Takes rs) _ _ (inr refl)
      (chosen (bytes_eq t (codes "Choice")) (Takes rs) _ _ (inr refl)
      (chosen (bytes_eq t (codes "Wait")) (Takes rs) _ _ (inr refl)
      (chosen (bytes_eq t (codes "Task")) (Takes rs) _ _ (inr refl)
      (chosen (bytes_eq t (codes "Parallel")) (Takes rs) _ _ (joined-takes ParallelStateSucceeded ParallelStateFailed ParallelStateExited d (context_of f (waiting v n x since uses items rs)) (waiting v n x since uses items rs) x (first_error rs) (outputs rs))
      (chosen (bytes_eq t (codes "Map")) (Takes rs) _ _ (joined-takes MapStateSucceeded MapStateFailed MapStateExited d (context_of f (waiting v n x since uses items rs)) (waiting v n x since uses items rs) x (first_error rs) (outputs rs))
      (inr refl))))))))

  pub effect-takes : (o : Option Data) (rs : List Record) → Takes rs (effect_by o f (waiting v n x since uses items rs))
  effect-takes None rs = inr refl
  effect-takes (Some d) rs = typed-takes (text_in (value_in (codes "Type") d)) d rs

  -- where one of them has failed, it reads the first error alone
  both : (b : Bool) (e g h k : Effect) → e ≡ h → g ≡ k → (if b then e else g) ≡ (if b then h else k)
  both true e g h k p q = p
  both false e g h k p q = q

  joined-same : (succeeded failed exited : EventKind) (d c : Data) (rs qs : List Record) (e : ErrorOut) → first_error rs ≡ Some e → first_error qs ≡ Some e → joined succeeded failed exited d c (waiting v n x since uses items rs) x ≡ joined succeeded failed exited d c (waiting v n x since uses items qs) x
  joined-same succeeded failed exited d c rs qs e h k = rw (h, k) refl

  typed-same : (o : Option (List ℕ)) (d : Data) (rs qs : List Record) (e : ErrorOut) → first_error rs ≡ Some e → first_error qs ≡ Some e → effect_by_type o d f (waiting v n x since uses items rs) ≡ effect_by_type o d f (waiting v n x since uses items qs)
  unfolding context_of
  typed-same None d rs qs e h k = refl
  typed-same (Some t) d rs qs e h k =
      both (bytes_eq t (codes "Pass")) _ _ _ _ refl
      (both (bytes_eq t (codes "Succeed")) _ _ _ _ refl
      (both (bytes_eq t (codes "Fail")) _ _ _ _ refl
      (both (bytes_eq t (codes "Choice")) _ _ _ _ refl
      (both (bytes_eq t (codes "Wait")) _ _ _ _ refl
      (both (bytes_eq t (codes "Task")) _ _ _ _ refl
      (both (bytes_eq t (codes "Parallel")) _ _ _ _ (joined-same ParallelStateSucceeded ParallelStateFailed ParallelStateExited d (context_of f (waiting v n x since uses items rs)) rs qs e h k)
      (both (bytes_eq t (codes "Map")) _ _ _ _ (joined-same MapStateSucceeded MapStateFailed MapStateExited d (context_of f (waiting v n x since uses items rs)) rs qs e h k)
      refl)))))))

  pub effect-same : (o : Option Data) (rs qs : List Record) (e : ErrorOut) → first_error rs ≡ Some e → first_error qs ≡ Some e → effect_by o f (waiting v n x since uses items rs) ≡ effect_by o f (waiting v n x since uses items qs)
  effect-same None rs qs e h k = refl
  effect-same (Some d) rs qs e h k = typed-same (text_in (value_in (codes "Type") d)) d rs qs e h k
