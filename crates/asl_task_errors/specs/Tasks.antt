-- The Tasks of a definition, at any depth, in document order, each with its name and its errors.
-- (Amazon States Language, "Structure of a State Machine", "Parallel State", "Map State".)
use Rattle.std.specs.Prelude.{ℕ, List, [], ◌∷◌, ◌++◌, Bool, false, Option, Some, if◌then◌else◌, codes}
use Rattle.asl_json_data.specs.Data.{Data, text, list, dict, Chain, no_items, item, Pairs, no_members, member}
use Rattle.asl_json.specs.Meaning.{value_in}
use Rattle.asl_json.specs.Same.{bytes_eq}
use Rattle.asl_task_errors.specs.Alike.{errors_of}

-- a name, and the errors that the Task of this name is worth failing with
abbrev pub Told : Type 0
Told = List ℕ × List (List ℕ)

abbrev pub is_text : List ℕ → Option Data → Bool
is_text t (Some (text s)) = bytes_eq s t
is_text t o = false

abbrev pub is_task : Data → Bool
is_task state = is_text (codes "Task") (value_in (codes "Type") state)

-- of a state alone, by the state and those around it, the innermost first
abbrev pub own_errors : List Data → List ℕ → Data → List Told
own_errors levels name state = if is_task state then (name, errors_of levels) ∷ [] else []

-- of the member with this key of a machine, given those of its states
abbrev pub machine_part : List ℕ → List Told → List Told
machine_part k states = if bytes_eq k (codes "States") then states else []

-- of the member with this key of a state, given those of its branches or of its machine
abbrev pub state_part : List ℕ → List Told → List Told → List Told
state_part k branches machine =
    if bytes_eq k (codes "Branches") then branches
    else if bytes_eq k (codes "Iterator") then machine
    else if bytes_eq k (codes "ItemProcessor") then machine
    else []

-- Those of what holds them, by the states around it, the innermost first. A state is around what its branches or its machine hold.
abbrev mutual
  -- of a machine
  pub of_machine : List Data → Data → List Told
  of_machine around (dict ms) = in_machine around ms
  of_machine around d = []

  pub in_machine : List Data → Pairs → List Told
  in_machine around no_members = []
  in_machine around (member k d ms) = machine_part k (of_states around d) ++ in_machine around ms

  pub of_states : List Data → Data → List Told
  of_states around (dict ms) = in_states around ms
  of_states around d = []

  pub in_states : List Data → Pairs → List Told
  in_states around no_members = []
  in_states around (member k d ms) =
      (own_errors (d ∷ around) k d ++ of_inner (d ∷ around) d) ++ in_states around ms

  -- of the machines inside a state
  pub of_inner : List Data → Data → List Told
  of_inner around (dict ms) = in_inner around ms
  of_inner around d = []

  pub in_inner : List Data → Pairs → List Told
  in_inner around no_members = []
  in_inner around (member k d ms) =
      state_part k (of_branches around d) (of_machine around d) ++ in_inner around ms

  pub of_branches : List Data → Data → List Told
  of_branches around (list ds) = in_branches around ds
  of_branches around d = []

  pub in_branches : List Data → Chain → List Told
  in_branches around no_items = []
  in_branches around (item d ds) = of_machine around d ++ in_branches around ds

-- each Task of a definition
abbrev pub task_errors : Data → List Told
task_errors definition = of_machine [] definition
