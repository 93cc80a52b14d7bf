-- An invocation tells three events at least.
use Rattle.std.proofs.Common.{ℕ, ◌≡◌, ◌≤◌, ◌++◌, Bool, true, false, List, [], ◌∷◌, refl, sym, subst, arith, cond, length, length-append, Some, None, Option}
use Rattle.std.specs.Prelude.{Ok, Err, codes}
use Rattle.std.proofs.lemmas.Bool.{both_ways}
use Rattle.asl_json_data.specs.Data.{Data}
use Rattle.asl_json.specs.Meaning.{value_in}
use Rattle.asl_json.specs.declared.value.Json.{Json}
use Rattle.asl_json.specs.declared.value.Json.TheVariants.{Dict}
use Rattle.asl_history.specs.declared.kind.EventKind.{EventKind}
use Rattle.asl_history.specs.declared.kind.EventKind.TheVariants.{TaskStateEntered, TaskStateExited, TaskScheduled, TaskStarted, TaskSucceeded, TaskFailed}
use Rattle.asl_def_shared.specs.Texts.{text_in}
use Rattle.asl_handle.specs.Decisions.{Handling, again, caught, unhandled, decision}
use Rattle.asl_mock.specs.Answers.{answer_to}
use Rattle.asl_mock.specs.declared.response.Answer.{Answer}
use Rattle.asl_mock.specs.declared.response.Answer.TheVariants.{Returns, Throws}
use Rattle.asl_step.specs.declared.effect.Effect.{Effect}
use Rattle.asl_step.specs.declared.effect.Draft.{Draft}
use Rattle.asl_step.specs.declared.effect.Progress.{Progress}
use Rattle.asl_step.specs.declared.facts.Facts.{Facts}
use Rattle.asl_step.specs.declared.record.ErrorOut.{ErrorOut}
use Rattle.asl_step.specs.declared.record.Record.{Record}
use Rattle.asl_step.specs.declared.record.Record.TheVariants.{New, Ready, Pausing, Again, Forked, Done, Failed}
use Rattle.asl_step.specs.Records.{name_in, uses_in, beginning_with, error_name}
use Rattle.asl_step.specs.Seen.{Seen}
use Rattle.asl_step.specs.Context.{context_of}
use Rattle.asl_step.specs.Rows.{draft, beginning, beginning_by, telling, left, leaving, failing, told_success, told_failure, error_output, is_within_limit, over_limit}
use Rattle.asl_step_io.specs.Paths.{Given, put_into}
use Rattle.asl_kinds.specs.Members.{next_in, effective, selected, no_answer}
use Rattle.asl_kinds.specs.Table.{passed, begun, handled, invoked, task_settled, task_fails, task_returns, task_answered, task_with, task_effect, effect_by_type, state_effect, is_invoking_type}
use Rattle.asl_run_branches.proofs.Linking.{same-eq}
use Rattle.asl_kinds.specs.private.Laws.{state-bounded}
use Rattle.asl_exec.specs.Steps.{effect_by}

-- three events are told, if a count is raised
abbrev Tells : Effect → Type 0
Tells e = e.raises ≡ true → 3 ≤ length e.events

-- so far
abbrev Told : Progress → Type 0
Told done = done.raises ≡ true → 3 ≤ length done.events

longer : (xs ys : List Draft) → 3 ≤ length xs → 3 ≤ length (xs ++ ys)
longer xs ys h = omega (arith, h, length-append xs ys)

of-both : (b : Bool) (e f : Effect) → Tells e → Tells f → Tells (cond b e f)
of-both true e f h g = h
of-both false e f h g = g

-- ---- rows

module _ (v : Seen) where
  failing-tells : (done : Progress) (e : ErrorOut) → Told done → Tells (failing v done e)
  failing-tells done e h r = longer done.events (told_failure v.forker v.place e) (h r)

  leaving-tells : (done : Progress) (exited : EventKind) (next : Option (List ℕ)) (x : Json) → Told done → Tells (leaving v done exited next x)
  leaving-tells done exited next x h =
      of-both (is_within_limit x) (left v done exited next x) (failing v done over_limit)
      (λ r. longer (done.events ++ draft exited (name_in v.current) x ∷ []) (told_success next v.forker v.place x) (longer done.events (draft exited (name_in v.current) x ∷ []) (h r)))
      (failing-tells done over_limit h)

  passed-tells : (done : Progress) (exited : EventKind) (next : Option (List ℕ)) (g : Given) → Told done → Tells (passed v done exited next g)
  passed-tells done exited next (Ok z) h = leaving-tells done exited next z h
  passed-tells done exited next (Err e) h = failing-tells done e h

  handled-tells : (retry : Option Data) (done : Progress) (exited : EventKind) (x : Json) (e : ErrorOut) (how : Handling) → Told done → Tells (handled retry v done exited x e how)
  handled-tells retry done exited x e (again i until) h = h
  handled-tells retry done exited x e (caught c) h = passed-tells done exited (next_in c) (put_into (value_in (codes "ResultPath") c) x (error_output e)) h
  handled-tells retry done exited x e unhandled h = failing-tells done e h

  settled-tells : (d : Data) (done : Progress) (x : Json) (g : Given) → Told done → Tells (task_settled d v done x g)
  settled-tells d done x (Ok z) h = leaving-tells done TaskStateExited (next_in d) z h
  settled-tells d done x (Err e) h = handled-tells (value_in (codes "Retry") d) done TaskStateExited x e (decision (value_in (codes "Retry") d) (value_in (codes "Catch") d) (error_name e) (uses_in v.current) v.moment) h

  -- it is scheduled, it is started, and it ends
  ended-told : (done : Progress) (y : Json) (kind : EventKind) (body : Json) → Told (telling v (invoked v done y) kind body)
  ended-told done y kind body r =
      let a = draft TaskScheduled (name_in v.current) y ∷ [] in
      let b = draft TaskStarted (name_in v.current) (Dict []) ∷ [] in
      let c = draft kind (name_in v.current) body ∷ [] in
      omega (arith, length-append done.events a, length-append (done.events ++ a) b, length-append ((done.events ++ a) ++ b) c)

  -- ---- a Task

  fails-tells : (d : Data) (done : Progress) (y x : Json) (e : ErrorOut) → Tells (task_fails d v (invoked v done y) x e)
  fails-tells d done y x e = settled-tells d (telling v (invoked v done y) TaskFailed (error_output e)) x (Err e) (ended-told done y TaskFailed (error_output e))

  answered-tells : (d c : Data) (done : Progress) (y x : Json) (o : Option Answer) → Tells (task_answered d c v (invoked v done y) x o)
  answered-tells d c done y x (Some (Returns r)) =
      of-both (is_within_limit r) (task_returns d c v (invoked v done y) x r) (task_fails d v (invoked v done y) x over_limit)
      (settled-tells d (telling v (invoked v done y) TaskSucceeded r) x (selected d x c r) (ended-told done y TaskSucceeded r))
      (fails-tells d done y x over_limit)
  answered-tells d c done y x (Some (Throws error cause)) = fails-tells d done y x (record { error = Some error; cause = cause })
  answered-tells d c done y x None = fails-tells d done y x no_answer

  unraised : (x : Json) (r : Record) → (beginning_by v TaskStateEntered x r).raises ≡ false
  unraised x (New n y) = refl
  unraised x (Ready n y) = refl
  unraised x (Pausing n y since until) = refl
  unraised x (Again n y since uses until) = refl
  unraised x (Forked n y since uses items) = refl
  unraised x (Done y) = refl
  unraised x (Failed e) = refl

  with-tells : (d c : Data) (x : Json) (g : Given) → Tells (task_with d c v (beginning v TaskStateEntered x) x g)
  with-tells d c x (Ok y) = answered-tells d c (beginning v TaskStateEntered x) y x (answer_to v.case (name_in v.current) v.count)
  with-tells d c x (Err e) = settled-tells d (beginning v TaskStateEntered x) x (Err e) (λ r. absurd (both_ways (beginning v TaskStateEntered x).raises (unraised x v.current) r))

task-tells : (d : Data) (f : Facts) (v : Seen) → Tells (task_effect d f v)
task-tells d f v = by (beginning_with v.current)
  where
    by : (o : Option Json) → Tells (begun (λ x. task_with d (context_of f v) v (beginning v TaskStateEntered x) x (effective d x (context_of f v))) v o)
    by (Some x) = with-tells v d (context_of f v) x (effective d x (context_of f v))
    by None = λ r. absurd (both_ways false refl r)

-- ---- any state

typed-tells : (o : Option (List ℕ)) (d : Data) (f : Facts) (v : Seen) → is_invoking_type o ≡ true → Tells (effect_by_type o d f v)
typed-tells None d f v i = absurd (both_ways false refl i)
typed-tells (Some t) d f v i = subst (λ (z : List ℕ). Tells (effect_by_type (Some z) d f v)) (sym (same-eq t (codes "Task") i)) (task-tells d f v)

state-tells : (d : Data) (f : Facts) (v : Seen) → Tells (state_effect d f v)
state-tells d f v r = typed-tells (text_in (value_in (codes "Type") d)) d f v ((state-bounded d f v).raises r) r

pub effect-tells : (o : Option Data) (f : Facts) (v : Seen) → (effect_by o f v).raises ≡ true → 3 ≤ length (effect_by o f v).events
effect-tells None f v r = absurd (both_ways false refl r)
effect-tells (Some d) f v r = state-tells d f v r
