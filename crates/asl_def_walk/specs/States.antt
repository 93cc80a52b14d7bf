-- The states of a definition, at any depth: each with its name, in document order, those of inner machines behind the state that holds them.
-- (Amazon States Language, "Structure of a State Machine", "Parallel State", "Map State".)
use Rattle.std.specs.Prelude.{ℕ, List, [], ◌∷◌, ◌++◌, if◌then◌else◌, codes}
use Rattle.asl_json_data.specs.Data.{Data, list, dict, Chain, no_items, item, Pairs, no_members, member}
use Rattle.asl_json_data.specs.Distinct.{Members}
use Rattle.asl_json.specs.Same.{bytes_eq}

-- of the member with this key of a machine, given those of its states
abbrev pub machine_part : List ℕ → Members → Members
machine_part k states = if bytes_eq k (codes "States") then states else []

-- of the member with this key of a state, given those of its branches or of its machine
abbrev pub state_part : List ℕ → Members → Members → Members
state_part k branches machine =
    if bytes_eq k (codes "Branches") then branches
    else if bytes_eq k (codes "Iterator") then machine
    else if bytes_eq k (codes "ItemProcessor") then machine
    else []

abbrev mutual
  -- of a machine
  pub all_states : Data → Members
  all_states (dict ms) = in_machine ms
  all_states d = []

  pub in_machine : Pairs → Members
  in_machine no_members = []
  in_machine (member k d ms) = machine_part k (among_states d) ++ in_machine ms

  pub among_states : Data → Members
  among_states (dict ms) = in_states ms
  among_states d = []

  pub in_states : Pairs → Members
  in_states no_members = []
  in_states (member k d ms) = (k, d) ∷ (inner_states d ++ in_states ms)

  -- of the machines inside a state
  pub inner_states : Data → Members
  inner_states (dict ms) = in_state ms
  inner_states d = []

  pub in_state : Pairs → Members
  in_state no_members = []
  in_state (member k d ms) = state_part k (branch_states d) (all_states d) ++ in_state ms

  pub branch_states : Data → Members
  branch_states (list ds) = in_branches ds
  branch_states d = []

  pub in_branches : Chain → Members
  in_branches no_items = []
  in_branches (item d ds) = all_states d ++ in_branches ds
