-- A state does in the newer spelling what it does in the older.
use Rattle.std.proofs.Common.{◌≡◌, ℕ, List, [], ◌∷◌, Bool, true, false, refl, sym, ap, ◌∙◌, subst}
use Rattle.std.specs.Prelude.{Option, Some, None, option_map, map, codes, Ok, Err, if◌then◌else◌, unwrap_or}
use Rattle.std.specs.Option.{option_or}
use Rattle.std.specs.Cmp.Lexicographic.{same_text}
use Rattle.asl_json_data.specs.Data.{Data, null, boolean, number, text, list, dict, Chain, no_items, item, Pairs}
use Rattle.asl_json.specs.View.{unchained}
use Rattle.asl_json.specs.Same.{bytes_eq}
use Rattle.asl_json.specs.Meaning.{value_at, value_in}
use Rattle.asl_json.specs.declared.value.Json.{Json}
use Rattle.asl_json.specs.declared.value.Json.TheVariants.{Dict}
use Rattle.asl_def_schema.specs.declared.sort.Sort.TheVariants as sort
use Rattle.asl_def_schema.specs.declared.sort.Kind.{Kind}
use Rattle.asl_def_schema.specs.declared.sort.Kind.TheVariants as kind
use Rattle.asl_def_schema.specs.Members.{Shape, shape_of, state_shape, sort_at, kind_named, is_among, machine_rows, parallel_rows, map_rows}
use Rattle.asl_def_schema.specs.Clean.{IsClean, IsCleanInside}
use Rattle.asl_def_schema.specs.Claims.{item_count}
use Rattle.asl_def_schema.proofs.Typed.{kind_inside, type_is}
use Rattle.asl_def_schema.proofs.Ways.{processor_one, selector_one}
use Rattle.asl_history.specs.declared.kind.EventKind.TheVariants.{ParallelStateEntered, ParallelStateExited, ParallelStateStarted, ParallelStateSucceeded, ParallelStateFailed, MapStateEntered, MapStateStarted, MapStateSucceeded, MapStateFailed, MapStateExited}
use Rattle.asl_history.specs.declared.kind.EventKind.{EventKind}
use Rattle.asl_def_shared.specs.Texts.{text_in}
use Rattle.asl_def_shared.specs.Member.{completion_names}
use Rattle.asl_def_states.specs.Items.{processor_in, selector_in}
use Rattle.asl_step.specs.declared.effect.Progress.{Progress}
use Rattle.asl_step.specs.declared.facts.Facts.{Facts}
use Rattle.asl_step.specs.Records.{beginning_with}
use Rattle.asl_step.specs.Seen.{Seen}
use Rattle.asl_step.specs.Context.{context_of}
use Rattle.asl_step.specs.Rows.{forking, beginning, telling}
use Rattle.asl_handle.specs.Decisions.{handlers_in}
use Rattle.asl_step_io.specs.Paths.{Given}
use Rattle.asl_kinds.specs.Members.{effective_by, effective}
use Rattle.asl_kinds.specs.Forks.{GivenFork, start_in, starts_in, ready_at, forked_with}
use Rattle.asl_kinds.specs.Table.{length_body, iteration_start, fork_with, fork_of, map_forks, map_joins, map_with, map_effect, limit_in, settled, fork_settled, parallel_forks, parallel_joins, parallel_with, parallel_effect, effect_by_type, state_effect, is_invoking_type, invokes, slots_by_type, slots}
use Rattle.asl_kinds.specs.private.Laws.{AreAlike, joined-alike}
use Rattle.asl_def.specs.Machines.{holds_states}
use Rattle.asl_def.specs.Upgraded.{names_map, newer_value, newer_items, newer_members}
use Rattle.asl_def.proofs.Newer.{IsOther, newer_option, member_same, value_at-newer, unknown_leaf, unforked_leaf, state_newer, state_same, map_shape, machine_same, type_newer}
use Rattle.asl_def.proofs.NewerSpelled.{no_iterator, no_parameters, older_processor, newer_processor, older_selector, newer_selector, other_none}

-- ---- members of a list of names

abbrev AllOf : (List ℕ → Type 0) → List (List ℕ) → Type 0
AllOf P [] = Unit {0}
AllOf P (k ∷ ks) = P k × AllOf P ks

alike : (d e : Data) (names : List (List ℕ)) → AllOf (λ k. value_in k d ≡ value_in k e) names → AreAlike names d e
alike d e [] h k among = absurd cc
alike d e (l ∷ ls) h k among = by (bytes_eq k l) refl (alike d e ls h.1 k)
  where
    by : (b : Bool) → bytes_eq k l ≡ b → (is_among k ls ≡ true → value_in k d ≡ value_in k e) → value_in k d ≡ value_in k e
    by true p rest = subst (λ (x : List ℕ). value_in x d ≡ value_in x e) (sym (same_text k l (sym p))) h.0
    by false p rest = rest (rw p at among)

-- ---- what states that fork do, by their members

fork_settled-same : (exited : EventKind) (d e : Data) (v : Seen) (done : Progress) (x : Json) (g : Given) → AreAlike completion_names d e → fork_settled exited d v done x g ≡ fork_settled exited e v done x g
fork_settled-same exited d e v done x g same = λ i. settled (same (codes "Retry") refl i) (same (codes "Catch") refl i) (text_in (same (codes "Next") refl i)) v done exited x g

parallel_forks-same : (d e : Data) (v : Seen) (done : Progress) (x : Json) (g : Given) → AreAlike completion_names d e → starts_in (value_in (codes "Branches") d) ≡ starts_in (value_in (codes "Branches") e) → parallel_forks d v done x g ≡ parallel_forks e v done x g
parallel_forks-same d e v done x (Ok y) same starts = λ i. forking v (telling v done ParallelStateStarted (Dict [])) x (item_count (handlers_in (same (codes "Retry") refl i))) [] (ready_at (starts i) y)
parallel_forks-same d e v done x (Err error) same starts = fork_settled-same ParallelStateExited d e v done x (Err error) same

parallel_joins-same : (d e c : Data) (v : Seen) (o : Option Json) → AreAlike completion_names d e → parallel_joins d c v o ≡ parallel_joins e c v o
parallel_joins-same d e c v (Some x) same = joined-alike ParallelStateSucceeded ParallelStateFailed ParallelStateExited d e c v x same
parallel_joins-same d e c v None same = refl

parallel_with-same : (d e c : Data) (v : Seen) (o : Option Json) → value_in (codes "InputPath") d ≡ value_in (codes "InputPath") e → value_in (codes "Parameters") d ≡ value_in (codes "Parameters") e → AreAlike completion_names d e → starts_in (value_in (codes "Branches") d) ≡ starts_in (value_in (codes "Branches") e) → parallel_with d c v o ≡ parallel_with e c v o
parallel_with-same d e c v (Some x) input parameters same starts =
    parallel_forks-same d e v (beginning v ParallelStateEntered x) x (effective d x c) same starts
    ∙ ap (parallel_forks e v (beginning v ParallelStateEntered x) x) (λ i. effective_by (input i) (parameters i) x c)
parallel_with-same d e c v None input parameters same starts = parallel_joins-same d e c v (forked_with v.current) same

map_forks-same : (d e : Data) (v : Seen) (done : Progress) (x : Json) (g : GivenFork) → AreAlike completion_names d e → map_forks d v done x g ≡ map_forks e v done x g
map_forks-same d e v done x (Ok g) same = λ i. forking v (telling v done MapStateStarted (length_body g.0)) x (item_count (handlers_in (same (codes "Retry") refl i))) g.0 g.1
map_forks-same d e v done x (Err error) same = fork_settled-same MapStateExited d e v done x (Err error) same

map_joins-same : (d e c : Data) (v : Seen) (o : Option Json) → AreAlike completion_names d e → map_joins d c v o ≡ map_joins e c v o
map_joins-same d e c v (Some x) same = joined-alike MapStateSucceeded MapStateFailed MapStateExited d e c v x same
map_joins-same d e c v None same = refl

-- the members by which a Map forks
record ForksAlike (d e : Data) : Type 0 where
  input : value_in (codes "InputPath") d ≡ value_in (codes "InputPath") e
  items : value_in (codes "ItemsPath") d ≡ value_in (codes "ItemsPath") e
  selector : selector_in d ≡ selector_in e
  start : iteration_start (processor_in d) ≡ iteration_start (processor_in e)

map_with-same : (d e : Data) (f : Facts) (v : Seen) (o : Option Json) → ForksAlike d e → AreAlike completion_names d e → map_with d f v o ≡ map_with e f v o
map_with-same d e f v (Some x) fork same =
    map_forks-same d e v (beginning v MapStateEntered x) x (fork_of d f v x) same
    ∙ ap (map_forks e v (beginning v MapStateEntered x) x) (λ i. fork_with (fork.input i) (fork.items i) (fork.selector i) (fork.start i) f v x)
map_with-same d e f v None fork same = map_joins-same d e (context_of f v) v (forked_with v.current) same

-- ---- machines start where they did

machine_start : (d : Data) → start_in (newer_value sort.Machine d) ≡ start_in d
unfolding machine_rows
machine_start null = refl
machine_start (boolean b) = refl
machine_start (number n) = refl
machine_start (text t) = refl
machine_start (list ds) = refl
machine_start (dict ms) = ap (λ (o : Option Data). unwrap_or (text_in o) []) (member_same false (codes "StartAt") (shape_of sort.Machine (kind_named (value_at (codes "Type") ms))) ms refl refl)

machines_start : (ds : Chain) → map start_in (unchained (newer_items sort.Machine ds)) ≡ map start_in (unchained ds)
machines_start no_items = refl
machines_start (item d ds) = let first = machine_start d in let others = machines_start ds in λ i. first i ∷ others i

branches_start : (o : Option Data) → starts_in (option_map (newer_value sort.Machines) o) ≡ starts_in o
branches_start None = refl
branches_start (Some null) = refl
branches_start (Some (boolean b)) = refl
branches_start (Some (number n)) = refl
branches_start (Some (text t)) = refl
branches_start (Some (list ds)) = machines_start ds
branches_start (Some (dict ms)) = refl

iterations_start : (o : Option Data) → iteration_start (option_map (newer_value sort.Machine) o) ≡ iteration_start o
iterations_start None = refl
iterations_start (Some d) = machine_start d

processors_start : (o : Option Data) → iteration_start (option_map (newer_value sort.ItemProcessor) o) ≡ iteration_start o
processors_start None = refl
processors_start (Some d) = ap start_in (sym (machine_same d)) ∙ machine_start d

-- ---- Parallel

abbrev parallel_shape : Shape
parallel_shape = state_shape (Some kind.Parallel)

abbrev renewed : Pairs → Pairs
renewed ms = newer_members false parallel_shape ms

parallel_completion : (ms : Pairs) → AreAlike completion_names (dict (renewed ms)) (dict ms)
unfolding parallel_rows
parallel_completion ms = alike (dict (renewed ms)) (dict ms) completion_names (
  member_same false (codes "ResultSelector") parallel_shape ms refl refl,
  (
    member_same false (codes "ResultPath") parallel_shape ms refl refl,
    (
      member_same false (codes "OutputPath") parallel_shape ms refl refl,
      (
        member_same false (codes "Retry") parallel_shape ms refl refl,
        (
          member_same false (codes "Catch") parallel_shape ms refl refl,
          (
            member_same false (codes "Next") parallel_shape ms refl refl,
            (member_same false (codes "End") parallel_shape ms refl refl, tt),
          ),
        ),
      ),
    ),
  ),
)

parallel_branches : (ms : Pairs) → starts_in (value_at (codes "Branches") (renewed ms)) ≡ starts_in (value_at (codes "Branches") ms)
unfolding parallel_rows
parallel_branches ms = ap starts_in (value_at-newer false (codes "Branches") parallel_shape ms refl) ∙ branches_start (value_at (codes "Branches") ms)

parallel_does : (ms : Pairs) (f : Facts) (v : Seen) → parallel_effect (dict (renewed ms)) f v ≡ parallel_effect (dict ms) f v
unfolding parallel_rows
parallel_does ms f v = parallel_with-same (dict (renewed ms)) (dict ms) (context_of f v) v (beginning_with v.current)
    (member_same false (codes "InputPath") parallel_shape ms refl refl)
    (member_same false (codes "Parameters") parallel_shape ms refl refl)
    (parallel_completion ms) (parallel_branches ms)

-- ---- Map

abbrev upgraded_map : Pairs → Pairs
upgraded_map ms = newer_members true map_shape ms

map_completion : (ms : Pairs) → AreAlike completion_names (dict (upgraded_map ms)) (dict ms)
unfolding map_rows
map_completion ms = alike (dict (upgraded_map ms)) (dict ms) completion_names (
  member_same true (codes "ResultSelector") map_shape ms refl refl,
  (
    member_same true (codes "ResultPath") map_shape ms refl refl,
    (
      member_same true (codes "OutputPath") map_shape ms refl refl,
      (
        member_same true (codes "Retry") map_shape ms refl refl,
        (
          member_same true (codes "Catch") map_shape ms refl refl,
          (
            member_same true (codes "Next") map_shape ms refl refl,
            (member_same true (codes "End") map_shape ms refl refl, tt),
          ),
        ),
      ),
    ),
  ),
)

-- its template
map_selector : (names : List ℕ → Bool) (ms : Pairs) → IsCleanInside names map_shape ms → selector_in (dict (upgraded_map ms)) ≡ selector_in (dict ms)
unfolding map_rows
map_selector names ms c =
    (λ i. option_or (no_parameters map_shape ms i) (value_at (codes "ItemSelector") (upgraded_map ms)))
    ∙ by (value_at (codes "Parameters") ms) refl
  where
    by : (o : Option Data) → value_at (codes "Parameters") ms ≡ o → value_at (codes "ItemSelector") (upgraded_map ms) ≡ option_or (value_at (codes "Parameters") ms) (value_at (codes "ItemSelector") ms)
    by None e = newer_selector map_shape ms e ∙ newer_option sort.Template (value_at (codes "ItemSelector") ms) refl ∙ ap (λ (o : Option Data). option_or o (value_at (codes "ItemSelector") ms)) (sym e)
    by (Some d) e =
        let none = other_none (value_at (codes "Parameters") ms) (value_at (codes "ItemSelector") ms) (selector_one names ms c) d e in
        older_selector map_shape ms none ∙ newer_option sort.Template (value_at (codes "Parameters") ms) refl ∙ e ∙ ap (λ (o : Option Data). option_or o (value_at (codes "ItemSelector") ms)) (sym e)

-- where its machine starts
map_start : (names : List ℕ → Bool) (ms : Pairs) → IsCleanInside names map_shape ms → iteration_start (processor_in (dict (upgraded_map ms))) ≡ iteration_start (processor_in (dict ms))
unfolding map_rows
map_start names ms c =
    (λ i. iteration_start (option_or (no_iterator map_shape ms i) (value_at (codes "ItemProcessor") (upgraded_map ms))))
    ∙ by (value_at (codes "ItemProcessor") ms) refl
  where
    by : (o : Option Data) → value_at (codes "ItemProcessor") ms ≡ o → iteration_start (value_at (codes "ItemProcessor") (upgraded_map ms)) ≡ iteration_start (option_or (value_at (codes "Iterator") ms) (value_at (codes "ItemProcessor") ms))
    by None e =
        ap iteration_start (older_processor map_shape ms e) ∙ iterations_start (value_at (codes "Iterator") ms)
        ∙ only (value_at (codes "Iterator") ms) ∙ ap (λ (o : Option Data). iteration_start (option_or (value_at (codes "Iterator") ms) o)) (sym e)
      where
        only : (o : Option Data) → iteration_start o ≡ iteration_start (option_or o None)
        only None = refl
        only (Some d) = refl
    by (Some d) e =
        let none = other_none (value_at (codes "ItemProcessor") ms) (value_at (codes "Iterator") ms) (processor_one names ms c) d e in
        ap iteration_start (newer_processor map_shape ms none) ∙ processors_start (value_at (codes "ItemProcessor") ms)
        ∙ ap (λ (o : Option Data). iteration_start (option_or o (value_at (codes "ItemProcessor") ms))) (sym none)

map_does : (names : List ℕ → Bool) (ms : Pairs) (f : Facts) (v : Seen) → IsCleanInside names map_shape ms → map_effect (dict (upgraded_map ms)) f v ≡ map_effect (dict ms) f v
unfolding map_rows
map_does names ms f v c = map_with-same (dict (upgraded_map ms)) (dict ms) f v (beginning_with v.current)
    (record {
      input = member_same true (codes "InputPath") map_shape ms refl refl;
      items = member_same true (codes "ItemsPath") map_shape ms refl refl;
      selector = map_selector names ms c;
      start = map_start names ms c;
    }) (map_completion ms)

-- ---- a state of any type

by_parallel : (d : Data) (f : Facts) (v : Seen) → value_in (codes "Type") d ≡ Some (text (codes "Parallel")) → state_effect d f v ≡ parallel_effect d f v
by_parallel d f v e = ap (λ (o : Option Data). effect_by_type (text_in o) d f v) e

by_map : (d : Data) (f : Facts) (v : Seen) → value_in (codes "Type") d ≡ Some (text (codes "Map")) → state_effect d f v ≡ map_effect d f v
by_map d f v e = ap (λ (o : Option Data). effect_by_type (text_in o) d f v) e

kind_does : (ms : Pairs) (c : IsClean sort.State (dict ms)) (o : Option Kind) → kind_named (value_at (codes "Type") ms) ≡ o → (f : Facts) (v : Seen) → state_effect (newer_value sort.State (dict ms)) f v ≡ state_effect (dict ms) f v
kind_does ms c (Some kind.Parallel) e f v =
    let type = type_is (value_at (codes "Type") ms) kind.Parallel e in
    ap (λ (d : Data). state_effect d f v) (state_newer ms (Some kind.Parallel) e)
    ∙ by_parallel (dict (renewed ms)) f v (type_newer false (Some kind.Parallel) ms ∙ type)
    ∙ parallel_does ms f v
    ∙ sym (by_parallel (dict ms) f v type)
kind_does ms c (Some kind.Map) e f v =
    let type = type_is (value_at (codes "Type") ms) kind.Map e in
    ap (λ (d : Data). state_effect d f v) (state_newer ms (Some kind.Map) e)
    ∙ by_map (dict (upgraded_map ms)) f v (type_newer true (Some kind.Map) ms ∙ type)
    ∙ map_does c.names ms f v (kind_inside c.names ms kind.Map c.is e)
    ∙ sym (by_map (dict ms) f v type)
kind_does ms c None e f v = ap (λ (d : Data). state_effect d f v) (state_same ms None e refl)
kind_does ms c (Some kind.Task) e f v = ap (λ (d : Data). state_effect d f v) (state_same ms (Some kind.Task) e refl)
kind_does ms c (Some kind.Pass) e f v = ap (λ (d : Data). state_effect d f v) (state_same ms (Some kind.Pass) e refl)
kind_does ms c (Some kind.Choice) e f v = ap (λ (d : Data). state_effect d f v) (state_same ms (Some kind.Choice) e refl)
kind_does ms c (Some kind.Wait) e f v = ap (λ (d : Data). state_effect d f v) (state_same ms (Some kind.Wait) e refl)
kind_does ms c (Some kind.Succeed) e f v = ap (λ (d : Data). state_effect d f v) (state_same ms (Some kind.Succeed) e refl)
kind_does ms c (Some kind.Fail) e f v = ap (λ (d : Data). state_effect d f v) (state_same ms (Some kind.Fail) e refl)

pub state_does : (d : Data) (f : Facts) (v : Seen) → IsClean sort.State d → state_effect (newer_value sort.State d) f v ≡ state_effect d f v
state_does null f v c = refl
state_does (boolean b) f v c = refl
state_does (number n) f v c = refl
state_does (text t) f v c = refl
state_does (list ds) f v c = refl
state_does (dict ms) f v c = kind_does ms c (kind_named (value_at (codes "Type") ms)) refl f v

-- ---- whether it invokes, and how many iterations run at once

type_same : (d : Data) → value_in (codes "Type") (newer_value sort.State d) ≡ value_in (codes "Type") d
type_same null = refl
type_same (boolean b) = refl
type_same (number n) = refl
type_same (text t) = refl
type_same (list ds) = refl
type_same (dict ms) = let o = kind_named (value_at (codes "Type") ms) in type_newer (names_map o) o ms

pub state_invokes : (d : Data) → invokes (newer_value sort.State d) ≡ invokes d
state_invokes d = ap (λ (o : Option Data). is_invoking_type (text_in o)) (type_same d)

limit_leaf : (o : Option Kind) → holds_states (sort_at (state_shape o) (codes "MaxConcurrency")) ≡ false
unfolding parallel_rows map_rows
limit_leaf None = unforked_leaf None refl (codes "MaxConcurrency")
limit_leaf (Some kind.Task) = unforked_leaf (Some kind.Task) refl (codes "MaxConcurrency")
limit_leaf (Some kind.Pass) = unforked_leaf (Some kind.Pass) refl (codes "MaxConcurrency")
limit_leaf (Some kind.Choice) = unforked_leaf (Some kind.Choice) refl (codes "MaxConcurrency")
limit_leaf (Some kind.Wait) = unforked_leaf (Some kind.Wait) refl (codes "MaxConcurrency")
limit_leaf (Some kind.Parallel) = unknown_leaf (codes "MaxConcurrency")
limit_leaf (Some kind.Map) = refl
limit_leaf (Some kind.Succeed) = unforked_leaf (Some kind.Succeed) refl (codes "MaxConcurrency")
limit_leaf (Some kind.Fail) = unforked_leaf (Some kind.Fail) refl (codes "MaxConcurrency")

limit_other : (b : Bool) → IsOther b (codes "MaxConcurrency")
limit_other true = refl
limit_other false = refl

limit_same : (d : Data) → value_in (codes "MaxConcurrency") (newer_value sort.State d) ≡ value_in (codes "MaxConcurrency") d
limit_same null = refl
limit_same (boolean b) = refl
limit_same (number n) = refl
limit_same (text t) = refl
limit_same (list ds) = refl
limit_same (dict ms) = let o = kind_named (value_at (codes "Type") ms) in member_same (names_map o) (codes "MaxConcurrency") (state_shape o) ms (limit_other (names_map o)) (limit_leaf o)

abbrev slots_with : Option (List ℕ) → Option Data → ℕ
slots_with None o = 0
slots_with (Some t) o = if bytes_eq t (codes "Map") then limit_in o else 0

slots_are : (t : Option (List ℕ)) (d : Data) → slots_by_type t d ≡ slots_with t (value_in (codes "MaxConcurrency") d)
slots_are None d = refl
slots_are (Some t) d = refl

pub state_slots : (d : Data) → slots (newer_value sort.State d) ≡ slots d
state_slots d =
    slots_are (text_in (value_in (codes "Type") (newer_value sort.State d))) (newer_value sort.State d)
    ∙ (λ i. slots_with (text_in (type_same d i)) (limit_same d i))
    ∙ sym (slots_are (text_in (value_in (codes "Type") d)) d)
