-- Laws of the definitions.
use Rattle.std.specs.Prelude.{◌≡◌, ℕ, List, [], ◌∷◌, ◌++◌, Bool, true, false, ◌||◌, Some, if◌then◌else◌, codes}
use Rattle.std.specs.List.{flat_map, list_any}
use Rattle.asl_json_data.specs.Data.{Data, Chain, no_items, item}
use Rattle.asl_json_data.specs.Distinct.{Members, AreDistinct, has_key}
use Rattle.asl_def_walk.specs.States.{all_states, inner_states}
use Rattle.asl_json.specs.Meaning.{value_in}
use Rattle.asl_json.specs.Same.{bytes_eq}
use Rattle.asl_handle.specs.Decisions.{handlers_in}
use Rattle.asl_handle.specs.Names.{is_beyond}
use Rattle.asl_task_errors.specs.Candidates.{timeout, unnamed}
use Rattle.asl_task_errors.specs.Alike.{are_alike, errors_of, handlers_of}
use Rattle.asl_task_errors.specs.Tasks.{Told, is_text, own_errors, task_errors}

-- ---- what is around a Task, by the states of the definition

-- a state holds those of its inner states
abbrev pub holds : List ℕ → List ℕ × Data → Bool
holds name state = has_key name (inner_states state.1)

-- of these states those that hold the state of this name, the last one first
abbrev pub around : List ℕ → Members → List Data
around name [] = []
around name (s ∷ ss) = around name ss ++ (if holds name s then s.1 ∷ [] else [])

abbrev pub held_errors : Members → List ℕ × Data → List Told
held_errors states s = own_errors (s.1 ∷ around s.0 states) s.0 s.1

-- Where no two states have one name, each Task is told by the states that hold it. All states stand in document order, so the last one
-- that holds a Task is the innermost.
abbrev pub TasksAreToldByTheirHolders : Type 0
TasksAreToldByTheirHolders = (d : Data) → AreDistinct [] (all_states d)
    → task_errors d ≡ flat_map (held_errors (all_states d)) (all_states d)

-- ---- which errors are handled like one that is told

-- whether a list has the name, as it stands in ErrorEquals
abbrev pub has_name : List ℕ → Chain → Bool
has_name name no_items = false
has_name name (item d ds) = is_text name (Some d) || has_name name ds

-- whether one of these retriers or catchers has it
abbrev pub is_named : List ℕ → Chain → Bool
is_named name no_items = false
is_named name (item d ds) =
    has_name name (handlers_in (value_in (codes "ErrorEquals") d)) || is_named name ds

-- Any other error than States.Timeout is handled like one that is told, but for the errors that nothing names, and unless a list names
-- the one that no list has to name.
abbrev pub AnyErrorIsHandledLikeOne : Type 0
AnyErrorIsHandledLikeOne = (levels : List Data) (error : List ℕ)
    → bytes_eq error timeout ≡ false → is_beyond error ≡ false
    → list_any (is_named unnamed) (flat_map handlers_of levels) ≡ false
    → list_any (are_alike (flat_map handlers_of levels) error) (errors_of levels) ≡ true
