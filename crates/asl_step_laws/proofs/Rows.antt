-- The rows of the table of states where data can't be made.
use Rattle.std.proofs.Common.{◌≡◌, ℕ, suc, List, [], ◌∷◌, ◌++◌, Bool, true, false, Option, Some, None, if◌then◌else◌, refl, sym, ap, ◌∙◌}
use Rattle.std.specs.Prelude.{Ok, Err, codes}
use Rattle.std.proofs.lemmas.List.{append_assoc}
use Rattle.asl_json_data.specs.Data.{Data, null, boolean, number, text, list, dict, Chain, no_items, item}
use Rattle.asl_json.specs.Meaning.{value_in}
use Rattle.asl_json.specs.declared.value.Json.{Json}
use Rattle.asl_json.specs.declared.value.Json.TheVariants.{Dict, List as ListOf}
use Rattle.asl_history.specs.declared.kind.EventKind.{EventKind}
use Rattle.asl_history.specs.declared.kind.EventKind.TheVariants.{PassStateEntered, PassStateExited, SucceedStateEntered, SucceedStateExited, ChoiceStateEntered, ChoiceStateExited, WaitStateEntered, WaitStateExited, TaskStateEntered, TaskStateExited, TaskSucceeded, ParallelStateEntered, ParallelStateExited, ParallelStateSucceeded, ParallelStateFailed, MapStateEntered, MapStateExited, MapStateSucceeded, MapStateFailed}
use Rattle.asl_mock.specs.Answers.{answer_to}
use Rattle.asl_mock.specs.declared.response.Answer.TheVariants.{Returns}
use Rattle.asl_handle.specs.Names.{names}
use Rattle.asl_handle.specs.Decisions.{unhandled, handlers_in, first_for, retried, caught_by, decision}
use Rattle.asl_step.specs.declared.effect.Draft.{Draft}
use Rattle.asl_step.specs.declared.effect.Progress.{Progress}
use Rattle.asl_step.specs.declared.facts.Facts.{Facts}
use Rattle.asl_step.specs.declared.record.ErrorOut.{ErrorOut}
use Rattle.asl_step.specs.declared.record.Record.{Record}
use Rattle.asl_step.specs.declared.record.Record.TheVariants.{New, Ready, Pausing, Again, Forked, Done, Failed}
use Rattle.asl_step.specs.Records.{name_in, uses_in, entering_with, beginning_with, pausing_with}
use Rattle.asl_step.specs.Context.{context_of}
use Rattle.asl_step.specs.Rows.{entering, beginning, telling, unstarted, left, failing, is_within_limit, over_limit}
use Rattle.asl_step.specs.Seen.{Seen}
use Rattle.asl_step_io.specs.Paths.{Given}
use Rattle.asl_kinds.specs.Members.{next_in, effective, pass_output, passed_on, selected, GivenTarget, choice_output, wait_until}
use Rattle.asl_kinds.specs.Forks.{forked_with, first_error, output_in, output_before, outputs, gathered}
use Rattle.asl_kinds.specs.Table.{passed, in_one, begun, decided, waits, wait_over, wait_with, handled, raised, settled, invoked, task_returns, task_fails, task_answered, task_with, joined_by, parallel_forks, parallel_joins, parallel_with, fork_of, map_forks, map_joins, map_with, effect_by_type, state_effect}
use Rattle.asl_step_laws.specs.Faults.{IsOf, data_of_target, placing_error}

-- ---- the data limit is an error that no handler is for

abbrev limit : List ℕ
limit = codes "States.DataLimitExceeded"

unnamed : (o : Option Data) → names o limit ≡ false
unnamed None = refl
unnamed (Some null) = refl
unnamed (Some (boolean b)) = refl
unnamed (Some (number n)) = refl
unnamed (Some (text t)) = refl
unnamed (Some (list ds)) = refl
unnamed (Some (dict ms)) = refl

none-for : (i : ℕ) (ds : Chain) → first_for limit i ds ≡ None
none-for i no_items = refl
none-for i (item d ds) =
    ap (λ (b : Bool). if b then Some (i, d) else first_for limit (suc i) ds)
    (unnamed (value_in (codes "ErrorEquals") d)) ∙ none-for (suc i) ds

limit-unhandled : (retry catch : Option Data) (uses : List ℕ) (now : ℕ)
    → decision retry catch limit uses now ≡ unhandled
limit-unhandled retry catch uses now =
    ap (λ (o : Option (ℕ × Data)).
    retried uses now o (caught_by (first_for limit 0 (handlers_in catch))))
    (none-for 0 (handlers_in retry)) ∙ ap caught_by (none-for 0 (handlers_in catch))

limit-raised : (retry catch : Option Data) (v : Seen) (done : Progress) (exited : EventKind)
    (x : Json) → failing v done over_limit ≡ raised retry catch v done exited x over_limit
limit-raised retry catch v done exited x =
    sym (ap (handled retry v done exited x over_limit)
    (limit-unhandled retry catch (uses_in v.current) v.moment))

-- ---- a state is left with what it gives

left-over : (v : Seen) (done : Progress) (exited : EventKind) (next : Option (List ℕ)) (z : Json)
    (e : ErrorOut) (b : Bool) → (if b then None else Some over_limit) ≡ Some e
    → (if b then left v done exited next z else failing v done over_limit) ≡ failing v done e
left-over v done exited next z e true h = absurd (cc)
left-over v done exited next z e false h = let same : over_limit ≡ e = cc in ap (failing v done) same

pub passed-fails : (v : Seen) (done : Progress) (exited : EventKind) (next : Option (List ℕ))
    (g : Given) (e : ErrorOut) → placing_error g ≡ Some e
    → passed v done exited next g ≡ failing v done e
passed-fails v done exited next (Ok z) e h = left-over v done exited next z e (is_within_limit z) h
passed-fails v done exited next (Err n) e h = let same : n ≡ e = cc in ap (failing v done) same

decided-fails : (v : Seen) (done : Progress) (g : GivenTarget) (e : ErrorOut)
    → placing_error (data_of_target g) ≡ Some e → decided v done g ≡ failing v done e
decided-fails v done (Ok g) e h =
    left-over v done ChoiceStateExited (Some g.0) g.1 e (is_within_limit g.1) h
decided-fails v done (Err n) e h = let same : n ≡ e = cc in ap (failing v done) same

settled-raises : (retry catch : Option Data) (next : Option (List ℕ)) (v : Seen) (done : Progress)
    (exited : EventKind) (x : Json) (g : Given) (e : ErrorOut) → placing_error g ≡ Some e
    → settled retry catch next v done exited x g ≡ raised retry catch v done exited x e
settled-raises retry catch next v done exited x (Ok z) e h =
    by (is_within_limit z) h
  where
    by : (b : Bool) → (if b then None else Some over_limit) ≡ Some e
        → (if b then left v done exited next z else failing v done over_limit)
        ≡ raised retry catch v done exited x e
    by true h = absurd (cc)
    by false h =
        let same : over_limit ≡ e = cc in
        limit-raised retry catch v done exited x ∙ ap (raised retry catch v done exited x) same
settled-raises retry catch next v done exited x (Err n) e h =
    let same : n ≡ e = cc in ap (raised retry catch v done exited x) same

-- ---- a state of each type

-- by its type
typed : (type : List ℕ) (d : Data) (f : Facts) (v : Seen) → IsOf type d
    → state_effect d f v ≡ effect_by_type (Some type) d f v
typed type d f v is = ap (λ (o : Option (List ℕ)). effect_by_type o d f v) is

pub pass-row : (d : Data) (f : Facts) (v : Seen) (x : Json) (e : ErrorOut) → IsOf (codes "Pass") d
    → entering_with v.current ≡ Some x
    → placing_error (pass_output d x (context_of f v)) ≡ Some e
    → state_effect d f v ≡ failing v (entering v PassStateEntered x) e
pass-row d f v x e is begins wrong =
    typed (codes "Pass") d f v is
    ∙ ap (in_one (λ (y : Json). pass_output d y (context_of f v)) PassStateEntered PassStateExited
    (next_in d) v) begins
    ∙ passed-fails v (entering v PassStateEntered x) PassStateExited (next_in d)
    (pass_output d x (context_of f v)) e wrong

pub succeed-row : (d : Data) (f : Facts) (v : Seen) (x : Json) (e : ErrorOut)
    → IsOf (codes "Succeed") d → entering_with v.current ≡ Some x
    → placing_error (passed_on d x (context_of f v)) ≡ Some e
    → state_effect d f v ≡ failing v (entering v SucceedStateEntered x) e
succeed-row d f v x e is begins wrong =
    typed (codes "Succeed") d f v is
    ∙ ap (in_one (λ (y : Json). passed_on d y (context_of f v)) SucceedStateEntered
    SucceedStateExited None v) begins
    ∙ passed-fails v (entering v SucceedStateEntered x) SucceedStateExited None
    (passed_on d x (context_of f v)) e wrong

pub choice-row : (d : Data) (f : Facts) (v : Seen) (x : Json) (e : ErrorOut)
    → IsOf (codes "Choice") d → entering_with v.current ≡ Some x
    → placing_error (data_of_target (choice_output d x (context_of f v))) ≡ Some e
    → state_effect d f v ≡ failing v (entering v ChoiceStateEntered x) e
choice-row d f v x e is begins wrong =
    typed (codes "Choice") d f v is
    ∙ ap (begun (λ (y : Json). decided v (entering v ChoiceStateEntered y)
    (choice_output d y (context_of f v))) v) begins
    ∙ decided-fails v (entering v ChoiceStateEntered x) (choice_output d x (context_of f v)) e wrong

pub wait-row : (d : Data) (f : Facts) (v : Seen) (x : Json) (e : ErrorOut) → IsOf (codes "Wait") d
    → entering_with v.current ≡ Some x → wait_until d v.moment x (context_of f v) ≡ Err e
    → state_effect d f v ≡ failing v (entering v WaitStateEntered x) e
wait-row d f v x e is begins wrong =
    typed (codes "Wait") d f v is ∙ ap (wait_with d f v) begins
    ∙ ap (waits v (entering v WaitStateEntered x) x) wrong

pausing-only : (r : Record) (x : Json) → pausing_with r ≡ Some x → entering_with r ≡ None
pausing-only (New n y) x h = absurd (cc)
pausing-only (Ready n y) x h = absurd (cc)
pausing-only (Pausing n y since until) x h = refl
pausing-only (Again n y since uses until) x h = absurd (cc)
pausing-only (Forked n y since uses items) x h = absurd (cc)
pausing-only (Done y) x h = absurd (cc)
pausing-only (Failed e) x h = absurd (cc)

pub over-row : (d : Data) (f : Facts) (v : Seen) (x : Json) (e : ErrorOut) → IsOf (codes "Wait") d
    → pausing_with v.current ≡ Some x → placing_error (passed_on d x (context_of f v)) ≡ Some e
    → state_effect d f v ≡ failing v unstarted e
over-row d f v x e is pauses wrong =
    typed (codes "Wait") d f v is
    ∙ ap (wait_with d f v) (pausing-only v.current x pauses)
    ∙ ap (wait_over d f v) pauses
    ∙ passed-fails v unstarted WaitStateExited (next_in d) (passed_on d x (context_of f v)) e wrong

-- ---- a Task

-- it does this with its raw input
task-begins : (d : Data) (f : Facts) (v : Seen) (x : Json) (g : Given) → IsOf (codes "Task") d
    → beginning_with v.current ≡ Some x → effective d x (context_of f v) ≡ g
    → state_effect d f v
    ≡ task_with d (context_of f v) v (beginning v TaskStateEntered x) x g
task-begins d f v x g is begins made =
    typed (codes "Task") d f v is
    ∙ ap (begun (λ (y : Json). task_with d (context_of f v) v (beginning v TaskStateEntered y) y
    (effective d y (context_of f v))) v) begins
    ∙ ap (task_with d (context_of f v) v (beginning v TaskStateEntered x) x) made

pub task-row : (d : Data) (f : Facts) (v : Seen) (x : Json) (e : ErrorOut) → IsOf (codes "Task") d
    → beginning_with v.current ≡ Some x → effective d x (context_of f v) ≡ Err e
    → state_effect d f v
    ≡ raised (value_in (codes "Retry") d) (value_in (codes "Catch") d) v
    (beginning v TaskStateEntered x) TaskStateExited x e
task-row d f v x e is begins wrong = task-begins d f v x (Err e) is begins wrong

-- what a Task has done that was answered
abbrev pub answered : Seen → Json → Json → Json → Progress
answered v x y r = telling v (invoked v (beginning v TaskStateEntered x) y) TaskSucceeded r

pub answer-row : (d : Data) (f : Facts) (v : Seen) (x y r : Json) (e : ErrorOut)
    → IsOf (codes "Task") d → beginning_with v.current ≡ Some x
    → effective d x (context_of f v) ≡ Ok y
    → answer_to v.case (name_in v.current) v.count ≡ Some (Returns r)
    → is_within_limit r ≡ true
    → placing_error (selected d x (context_of f v) r) ≡ Some e
    → state_effect d f v
    ≡ raised (value_in (codes "Retry") d) (value_in (codes "Catch") d) v (answered v x y r)
    TaskStateExited x e
answer-row d f v x y r e is begins made answer within wrong =
    task-begins d f v x (Ok y) is begins made
    ∙ ap (task_answered d (context_of f v) v (invoked v (beginning v TaskStateEntered x) y) x) answer
    ∙ ap (λ (b : Bool). if b
    then task_returns d (context_of f v) v (invoked v (beginning v TaskStateEntered x) y) x r
    else task_fails d v (invoked v (beginning v TaskStateEntered x) y) x over_limit) within
    ∙ settled-raises (value_in (codes "Retry") d) (value_in (codes "Catch") d) (next_in d) v
    (answered v x y r) TaskStateExited x (selected d x (context_of f v) r) e wrong

-- its events stand in this order
pub answered-tells : (before : List Draft) (s t u : Draft)
    → ((before ++ s ∷ []) ++ t ∷ []) ++ u ∷ [] ≡ before ++ s ∷ t ∷ u ∷ []
answered-tells before s t u = simp append_assoc

-- ---- states that fork

pub parallel-row : (d : Data) (f : Facts) (v : Seen) (x : Json) (e : ErrorOut)
    → IsOf (codes "Parallel") d → beginning_with v.current ≡ Some x
    → effective d x (context_of f v) ≡ Err e
    → state_effect d f v
    ≡ raised (value_in (codes "Retry") d) (value_in (codes "Catch") d) v
    (beginning v ParallelStateEntered x) ParallelStateExited x e
parallel-row d f v x e is begins wrong =
    typed (codes "Parallel") d f v is ∙ ap (parallel_with d (context_of f v) v) begins
    ∙ ap (parallel_forks d v (beginning v ParallelStateEntered x) x) wrong

pub map-row : (d : Data) (f : Facts) (v : Seen) (x : Json) (e : ErrorOut) → IsOf (codes "Map") d
    → beginning_with v.current ≡ Some x → fork_of d f v x ≡ Err e
    → state_effect d f v
    ≡ raised (value_in (codes "Retry") d) (value_in (codes "Catch") d) v
    (beginning v MapStateEntered x) MapStateExited x e
map-row d f v x e is begins wrong =
    typed (codes "Map") d f v is ∙ ap (map_with d f v) begins
    ∙ ap (map_forks d v (beginning v MapStateEntered x) x) wrong

-- where all branches have ended well, none has failed
well-ended : (rs : List Record) (ds : List Data) → outputs rs ≡ Some ds → first_error rs ≡ None
well-ended [] ds h = refl
well-ended (r ∷ rs) ds h = by r (outputs rs) refl h (well-ended rs)
  where
    by : (q : Record) (o : Option (List Data)) → outputs rs ≡ o
        → output_before (output_in q) o ≡ Some ds
        → ((es : List Data) → outputs rs ≡ Some es → first_error rs ≡ None)
        → first_error (q ∷ rs) ≡ None
    by (Done y) (Some es) is h rest = rest es is
    by (Done y) None is h rest = absurd (cc)
    by (New n y) o is h rest = absurd (cc)
    by (Ready n y) o is h rest = absurd (cc)
    by (Pausing n y since until) o is h rest = absurd (cc)
    by (Again n y since uses until) o is h rest = absurd (cc)
    by (Forked n y since uses items) o is h rest = absurd (cc)
    by (Failed e) o is h rest = absurd (cc)

forked-only : (r : Record) (x : Json) → forked_with r ≡ Some x → beginning_with r ≡ None
forked-only (New n y) x h = absurd (cc)
forked-only (Ready n y) x h = absurd (cc)
forked-only (Pausing n y since until) x h = absurd (cc)
forked-only (Again n y since uses until) x h = absurd (cc)
forked-only (Forked n y since uses items) x h = refl
forked-only (Done y) x h = absurd (cc)
forked-only (Failed e) x h = absurd (cc)

-- branches that have all ended well, and an output that can't be placed
joined-raises : (succeeded failed exited : EventKind) (d c : Data) (v : Seen) (x : Json)
    (ds : List Data) (e : ErrorOut) → outputs v.children ≡ Some ds
    → placing_error (selected d x c (ListOf ds)) ≡ Some e
    → joined_by succeeded failed exited d c v x (first_error v.children) (outputs v.children)
    ≡ raised (value_in (codes "Retry") d) (value_in (codes "Catch") d) v
    (telling v gathered succeeded (Dict [])) exited x e
joined-raises succeeded failed exited d c v x ds e ended wrong =
    ap (λ (o : Option ErrorOut).
    joined_by succeeded failed exited d c v x o (outputs v.children))
    (well-ended v.children ds ended)
    ∙ ap (joined_by succeeded failed exited d c v x None) ended
    ∙ settled-raises (value_in (codes "Retry") d) (value_in (codes "Catch") d) (next_in d) v
    (telling v gathered succeeded (Dict [])) exited x (selected d x c (ListOf ds)) e wrong

pub parallel-joined : (d : Data) (f : Facts) (v : Seen) (x : Json) (ds : List Data) (e : ErrorOut)
    → IsOf (codes "Parallel") d → forked_with v.current ≡ Some x → outputs v.children ≡ Some ds
    → placing_error (selected d x (context_of f v) (ListOf ds)) ≡ Some e
    → state_effect d f v
    ≡ raised (value_in (codes "Retry") d) (value_in (codes "Catch") d) v
    (telling v gathered ParallelStateSucceeded (Dict [])) ParallelStateExited x e
parallel-joined d f v x ds e is forked ended wrong =
    typed (codes "Parallel") d f v is
    ∙ ap (parallel_with d (context_of f v) v) (forked-only v.current x forked)
    ∙ ap (parallel_joins d (context_of f v) v) forked
    ∙ joined-raises ParallelStateSucceeded ParallelStateFailed ParallelStateExited d
    (context_of f v) v x ds e ended wrong

pub map-joined : (d : Data) (f : Facts) (v : Seen) (x : Json) (ds : List Data) (e : ErrorOut)
    → IsOf (codes "Map") d → forked_with v.current ≡ Some x → outputs v.children ≡ Some ds
    → placing_error (selected d x (context_of f v) (ListOf ds)) ≡ Some e
    → state_effect d f v
    ≡ raised (value_in (codes "Retry") d) (value_in (codes "Catch") d) v
    (telling v gathered MapStateSucceeded (Dict [])) MapStateExited x e
map-joined d f v x ds e is forked ended wrong =
    typed (codes "Map") d f v is ∙ ap (map_with d f v) (forked-only v.current x forked)
    ∙ ap (map_joins d (context_of f v) v) forked
    ∙ joined-raises MapStateSucceeded MapStateFailed MapStateExited d (context_of f v) v x ds e
    ended wrong
