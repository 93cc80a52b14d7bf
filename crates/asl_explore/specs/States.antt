-- The states of a definition that are told.
use Rattle.std.specs.Prelude.{ℕ, ◌≡◌, List, Some, map}
use Rattle.asl_json_data.specs.Data.{Data}
use Rattle.asl_def_walk.specs.States.{all_states}
use Rattle.asl_def.specs.Machines.{state_number, state_object}
use Rattle.asl_exec.specs.Steps.{invokes_by}
use Rattle.asl_explore.specs.declared.states.Stated.{Stated}

-- the name of a state, its number among all states of the definition, and whether it is a Task
pub record IsStated (d : Data) (t : Stated) : Type 0 where
  pub number : state_number t.name d ≡ Some t.number
  pub task : t.is_task ≡ invokes_by (state_object t.name d)

abbrev pub names_told : List Stated → List (List ℕ)
names_told ts = map (λ (t : Stated). t.name) ts

-- each state of the definition, once, in document order
abbrev pub AreAllStated : Data → List Stated → Type 0
AreAllStated d ts = names_told ts ≡ map (λ (s : List ℕ × Data). s.0) (all_states d)
