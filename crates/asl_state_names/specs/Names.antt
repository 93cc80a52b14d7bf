-- Where a definition has the names of its states: where a state is declared, and where a machine or a state refers to it, in document order. A name belongs to the
-- machine that holds it, so one name may stand for a state in each machine. (Amazon States Language, "Structure of a State Machine", "Transitions", "Choice
-- Rule", "Fallback States", "Parallel State", "Map State".)
use Rattle.std.specs.Prelude.{ℕ, ◌+◌, Bool, true, false, ◌&&◌, ◌||◌, List, [], ◌∷◌, ◌++◌, if◌then◌else◌, codes}
use Rattle.asl_json_data.specs.Data.{Data, text, list, dict, Chain, no_items, item, Pairs, no_members, member}
use Rattle.asl_json.specs.Same.{bytes_eq}
use Rattle.asl_state_names.specs.declared.mention.Mention.{Mention}

-- the place of the part of this number of what stands at a place: the numbers of the members and items on the way, from 0
abbrev pub part : List ℕ → ℕ → List ℕ
part p i = p ++ i ∷ []

-- ---- a name, at a place, of a state of the machine at m

-- the key of a state
abbrev pub declared : List ℕ → List ℕ → List ℕ → Mention
declared m p k = record { machine = m; place = p; name = k; is_key = true }

-- the text that a value is; no other value names a state
abbrev pub referred : List ℕ → List ℕ → Data → List Mention
referred m p (text s) = record { machine = m; place = p; name = s; is_key = false } ∷ []
referred m p d = []

-- ---- the rules of a Choice and the catchers of a state: each may name the next state

abbrev pub next_part : List ℕ → List Mention → List Mention
next_part k next = if bytes_eq k (codes "Next") then next else []

abbrev pub in_rule : List ℕ → List ℕ → ℕ → Pairs → List Mention
in_rule m p i no_members = []
in_rule m p i (member k d ms) = next_part k (referred m (part p i) d) ++ in_rule m p (i + 1) ms

abbrev pub rule_names : List ℕ → List ℕ → Data → List Mention
rule_names m p (dict ms) = in_rule m p 0 ms
rule_names m p d = []

abbrev pub in_rules : List ℕ → List ℕ → ℕ → Chain → List Mention
in_rules m p i no_items = []
in_rules m p i (item d ds) = rule_names m (part p i) d ++ in_rules m p (i + 1) ds

abbrev pub rules_names : List ℕ → List ℕ → Data → List Mention
rules_names m p (list ds) = in_rules m p 0 ds
rules_names m p d = []

-- ---- the members that have names

-- of the member with this key of a machine, given those of its value as the first state's name and as states
abbrev pub machine_part : List ℕ → List Mention → List Mention → List Mention
machine_part k first states =
    if bytes_eq k (codes "StartAt") then first
    else if bytes_eq k (codes "States") then states
    else []

abbrev pub names_next : List ℕ → Bool
names_next k = bytes_eq k (codes "Next") || bytes_eq k (codes "Default")

abbrev pub has_rules : List ℕ → Bool
has_rules k = bytes_eq k (codes "Choices") || bytes_eq k (codes "Catch")

abbrev pub has_machine : List ℕ → Bool
has_machine k = bytes_eq k (codes "Iterator") || bytes_eq k (codes "ItemProcessor")

-- of the member with this key of a state, given those of its value as the next state's name, as rules or catchers, as branches, and as a machine
abbrev pub state_part : List ℕ → List Mention → List Mention → List Mention → List Mention → List Mention
state_part k next rules branches machine =
    if names_next k then next
    else if has_rules k then rules
    else if bytes_eq k (codes "Branches") then branches
    else if has_machine k then machine
    else []

-- ---- all names

abbrev mutual
  -- of the machine at p
  pub machine_names : List ℕ → Data → List Mention
  machine_names p (dict ms) = in_machine p 0 ms
  machine_names p d = []

  pub in_machine : List ℕ → ℕ → Pairs → List Mention
  in_machine p i no_members = []
  in_machine p i (member k d ms) =
      machine_part k (referred p (part p i) d) (among_states p (part p i) d)
      ++ in_machine p (i + 1) ms

  -- of the states, at p, of the machine at m
  pub among_states : List ℕ → List ℕ → Data → List Mention
  among_states m p (dict ms) = in_states m p 0 ms
  among_states m p d = []

  pub in_states : List ℕ → List ℕ → ℕ → Pairs → List Mention
  in_states m p i no_members = []
  in_states m p i (member k d ms) =
      declared m (part p i) k ∷ (state_names m (part p i) d ++ in_states m p (i + 1) ms)

  -- of the state at p
  pub state_names : List ℕ → List ℕ → Data → List Mention
  state_names m p (dict ms) = in_state m p 0 ms
  state_names m p d = []

  pub in_state : List ℕ → List ℕ → ℕ → Pairs → List Mention
  in_state m p i no_members = []
  in_state m p i (member k d ms) =
      state_part k (referred m (part p i) d) (rules_names m (part p i) d)
      (branch_names (part p i) d) (machine_names (part p i) d)
      ++ in_state m p (i + 1) ms

  -- of the branches at p
  pub branch_names : List ℕ → Data → List Mention
  branch_names p (list ds) = in_branches p 0 ds
  branch_names p d = []

  pub in_branches : List ℕ → ℕ → Chain → List Mention
  in_branches p i no_items = []
  in_branches p i (item d ds) = machine_names (part p i) d ++ in_branches p (i + 1) ds

-- of a definition
abbrev pub names_of : Data → List Mention
names_of d = machine_names [] d

-- ---- one state

-- whether two mentions are of one state: a name of one machine
abbrev pub is_same_state : Mention → Mention → Bool
is_same_state a b = bytes_eq a.machine b.machine && bytes_eq a.name b.name
