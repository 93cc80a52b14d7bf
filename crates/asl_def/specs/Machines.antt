-- What a definition has by names.
use Rattle.std.specs.Prelude.{ℕ, suc, List, [], ◌++◌, length, Bool, true, false, Option, Some, None, if◌then◌else◌, option_map}
use Rattle.asl_json_data.specs.Data.{Data, null, boolean, number, text, list, dict, Chain, no_items, item, Pairs, no_members, member, pairs}
use Rattle.asl_json.specs.Same.{bytes_eq}
use Rattle.asl_json.specs.Meaning.{value_at}
use Rattle.asl_json.specs.View.{unpaired}
use Rattle.asl_def_schema.specs.declared.sort.Sort.{Sort}
use Rattle.asl_def_schema.specs.declared.sort.Sort.TheVariants as sort
use Rattle.asl_def_schema.specs.Members.{Shape, shape_in, sort_at, item_sort}
use Rattle.asl_def_schema.specs.Canon.{Named}

-- what states stand in
abbrev pub holds_states : Sort → Bool
holds_states sort.Definition = true
holds_states sort.Machine = true
holds_states sort.ItemProcessor = true
holds_states sort.Machines = true
holds_states sort.States = true
holds_states sort.State = true
holds_states s = false

-- the members of States are states
abbrev pub own_states : Sort → Pairs → List Named
own_states sort.States ms = unpaired ms
own_states s ms = []

-- the states of all machines: those of inner machines stand before the state that holds them
abbrev mutual
  pub all_states : Sort → Data → List Named
  all_states s null = []
  all_states s (boolean b) = []
  all_states s (number n) = []
  all_states s (text t) = []
  all_states s (list ds) = if holds_states s then states_of_items (item_sort s) ds else []
  all_states s (dict ms) =
      if holds_states s then states_of_members (shape_in s ms) ms ++ own_states s ms else []

  pub states_of_items : Sort → Chain → List Named
  states_of_items s no_items = []
  states_of_items s (item d ds) = all_states s d ++ states_of_items s ds

  pub states_of_members : Shape → Pairs → List Named
  states_of_members sh no_members = []
  states_of_members sh (member k d ms) = all_states (sort_at sh k) d ++ states_of_members sh ms

-- the states of a definition
abbrev pub states_of : Data → List Named
states_of d = all_states sort.Definition d

-- how many there are
abbrev pub state_count : Data → ℕ
state_count d = length (states_of d)

-- the object of the state of this name
abbrev pub state_object : List ℕ → Data → Option Data
state_object name d = value_at name (pairs (states_of d))

-- the number of the member at a key, counted from 0
abbrev pub number_at : List ℕ → Pairs → Option ℕ
number_at k no_members = None
number_at k (member l d ms) = if bytes_eq k l then Some 0 else option_map suc (number_at k ms)

-- the number of the state of this name
abbrev pub state_number : List ℕ → Data → Option ℕ
state_number name d = number_at name (pairs (states_of d))
