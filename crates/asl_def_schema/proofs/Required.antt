-- The required members of each object.
use Rattle.std.proofs.Common.{◌≡◌, ℕ, List, [], ◌∷◌, Bool, true, false, inl, refl}
use Rattle.std.specs.Prelude.{Option, Some, is_some, codes}
use Rattle.asl_json_data.specs.Data.{Pairs}
use Rattle.asl_json.specs.Meaning.{value_at}
use Rattle.asl_def_schema.specs.declared.sort.Sort.TheVariants as sort
use Rattle.asl_def_schema.specs.declared.sort.Kind.{Kind}
use Rattle.asl_def_schema.specs.declared.sort.Kind.TheVariants as kind
use Rattle.asl_def_schema.specs.Members.{shape_of, state_shape, is_among, operators, definition_rows, machine_rows, item_processor_rows, task_rows, choice_rows, parallel_rows, map_rows, retrier_rows, catcher_rows, rule_rows, inner_rule_rows, test_rows}
use Rattle.asl_def_schema.specs.Claims.{has_any}
use Rattle.asl_def_schema.specs.Clean.{IsCleanInside, IsThereAmong, is_beside}
use Rattle.asl_def_schema.proofs.Inside.{there_at, there_beside, fits_among_at, is_there}
use Rattle.asl_def_schema.proofs.Ways.{processor_some}

pub definition_start : (names : List ℕ → Bool) (o : Option Kind) (ms : Pairs) → IsCleanInside names (shape_of sort.Definition o) ms → IsThereAmong names sort.Target (value_at (codes "StartAt") ms)
unfolding definition_rows
definition_start names o ms c = there_at names (shape_of sort.Definition o) ms (codes "StartAt") refl c

pub definition_states : (names : List ℕ → Bool) (o : Option Kind) (ms : Pairs) → IsCleanInside names (shape_of sort.Definition o) ms → IsThereAmong names sort.States (value_at (codes "States") ms)
unfolding definition_rows
definition_states names o ms c = there_at names (shape_of sort.Definition o) ms (codes "States") refl c

pub machine_start : (names : List ℕ → Bool) (o : Option Kind) (ms : Pairs) → IsCleanInside names (shape_of sort.Machine o) ms → IsThereAmong names sort.Target (value_at (codes "StartAt") ms)
unfolding machine_rows
machine_start names o ms c = there_at names (shape_of sort.Machine o) ms (codes "StartAt") refl c

pub machine_states : (names : List ℕ → Bool) (o : Option Kind) (ms : Pairs) → IsCleanInside names (shape_of sort.Machine o) ms → IsThereAmong names sort.States (value_at (codes "States") ms)
unfolding machine_rows
machine_states names o ms c = there_at names (shape_of sort.Machine o) ms (codes "States") refl c

pub item_processor_start : (names : List ℕ → Bool) (o : Option Kind) (ms : Pairs) → IsCleanInside names (shape_of sort.ItemProcessor o) ms → IsThereAmong names sort.Target (value_at (codes "StartAt") ms)
unfolding item_processor_rows
item_processor_start names o ms c = there_at names (shape_of sort.ItemProcessor o) ms (codes "StartAt") refl c

pub item_processor_states : (names : List ℕ → Bool) (o : Option Kind) (ms : Pairs) → IsCleanInside names (shape_of sort.ItemProcessor o) ms → IsThereAmong names sort.States (value_at (codes "States") ms)
unfolding item_processor_rows
item_processor_states names o ms c = there_at names (shape_of sort.ItemProcessor o) ms (codes "States") refl c

pub task_resource : (names : List ℕ → Bool) (ms : Pairs) → IsCleanInside names (state_shape (Some kind.Task)) ms → IsThereAmong names sort.Text (value_at (codes "Resource") ms)
unfolding task_rows
task_resource names ms c = there_at names (state_shape (Some kind.Task)) ms (codes "Resource") refl c

pub choice_rules : (names : List ℕ → Bool) (ms : Pairs) → IsCleanInside names (state_shape (Some kind.Choice)) ms → IsThereAmong names sort.Rules (value_at (codes "Choices") ms)
unfolding choice_rows
choice_rules names ms c = there_at names (state_shape (Some kind.Choice)) ms (codes "Choices") refl c

pub parallel_branches : (names : List ℕ → Bool) (ms : Pairs) → IsCleanInside names (state_shape (Some kind.Parallel)) ms → IsThereAmong names sort.Machines (value_at (codes "Branches") ms)
unfolding parallel_rows
parallel_branches names ms c = there_at names (state_shape (Some kind.Parallel)) ms (codes "Branches") refl c

-- the machine of a Map is its Iterator, where it has no ItemProcessor
left_there : (k l : List ℕ) (ms : Pairs) → has_any (k ∷ l ∷ []) ms ≡ true → is_some (value_at l ms) ≡ false → is_some (value_at k ms) ≡ true
left_there k l ms e off = by (is_some (value_at k ms)) refl
  where
    by : (b : Bool) → is_some (value_at k ms) ≡ b → is_some (value_at k ms) ≡ true
    by true h = h
    by false h = absurd (let x = rw (h, off) at e in cc)

pub map_iterator : (names : List ℕ → Bool) (ms : Pairs) → IsCleanInside names (state_shape (Some kind.Map)) ms → is_some (value_at (codes "ItemProcessor") ms) ≡ false → IsThereAmong names sort.Machine (value_at (codes "Iterator") ms)
unfolding map_rows
map_iterator names ms c off = is_there names sort.Machine (value_at (codes "Iterator") ms) (fits_among_at names (state_shape (Some kind.Map)) ms (codes "Iterator") c) (left_there (codes "Iterator") (codes "ItemProcessor") ms (processor_some names ms c) off)

pub retrier_errors : (names : List ℕ → Bool) (o : Option Kind) (ms : Pairs) → IsCleanInside names (shape_of sort.Retrier o) ms → IsThereAmong names sort.ErrorNames (value_at (codes "ErrorEquals") ms)
unfolding retrier_rows
retrier_errors names o ms c = there_at names (shape_of sort.Retrier o) ms (codes "ErrorEquals") refl c

pub catcher_errors : (names : List ℕ → Bool) (o : Option Kind) (ms : Pairs) → IsCleanInside names (shape_of sort.Catcher o) ms → IsThereAmong names sort.ErrorNames (value_at (codes "ErrorEquals") ms)
unfolding catcher_rows
catcher_errors names o ms c = there_at names (shape_of sort.Catcher o) ms (codes "ErrorEquals") refl c

pub catcher_next : (names : List ℕ → Bool) (o : Option Kind) (ms : Pairs) → IsCleanInside names (shape_of sort.Catcher o) ms → IsThereAmong names sort.Target (value_at (codes "Next") ms)
unfolding catcher_rows
catcher_next names o ms c = there_at names (shape_of sort.Catcher o) ms (codes "Next") refl c

pub rule_next : (names : List ℕ → Bool) (o : Option Kind) (ms : Pairs) → IsCleanInside names (shape_of sort.Rule o) ms → IsThereAmong names sort.Target (value_at (codes "Next") ms)
unfolding rule_rows inner_rule_rows test_rows
rule_next names o ms c = there_at names (shape_of sort.Rule o) ms (codes "Next") refl c

-- beside a test

operator_used : (l : List ℕ) → is_among l operators ≡ true → is_beside (codes "Variable") l inner_rule_rows ≡ true
unfolding inner_rule_rows
operator_used l e = rw e refl

outer_used : (l : List ℕ) → is_among l operators ≡ true → is_beside (codes "Variable") l rule_rows ≡ true
unfolding rule_rows inner_rule_rows
outer_used l e = rw e refl

pub rule_variable : (names : List ℕ → Bool) (o : Option Kind) (ms : Pairs) (l : List ℕ) → IsCleanInside names (shape_of sort.Rule o) ms → is_among l operators ≡ true → is_some (value_at l ms) ≡ true → IsThereAmong names sort.Path (value_at (codes "Variable") ms)
unfolding rule_rows inner_rule_rows
rule_variable names o ms l c e h = there_beside names (shape_of sort.Rule o) ms (codes "Variable") l (outer_used l e) h c

pub inner_rule_variable : (names : List ℕ → Bool) (o : Option Kind) (ms : Pairs) (l : List ℕ) → IsCleanInside names (shape_of sort.InnerRule o) ms → is_among l operators ≡ true → is_some (value_at l ms) ≡ true → IsThereAmong names sort.Path (value_at (codes "Variable") ms)
unfolding inner_rule_rows
inner_rule_variable names o ms l c e h = there_beside names (shape_of sort.InnerRule o) ms (codes "Variable") l (operator_used l e) h c
