-- The states of a definition, those inside others too.
use Rattle.std.specs.Prelude.{ℕ, suc, List, [], ◌∷◌, ◌++◌, Option, if◌then◌else◌, codes, map}
use Rattle.asl_json_data.specs.Data.{Data, null, boolean, number, text, list, dict, Chain, no_items, item, Pairs, no_members, member}
use Rattle.asl_json.specs.Meaning.{value_in}
use Rattle.asl_def_schema.specs.declared.sort.Kind.{Kind}
use Rattle.asl_def_schema.specs.declared.sort.Sort.{Sort}
use Rattle.asl_def_schema.specs.declared.sort.Sort.TheVariants.{Definition, State}
use Rattle.asl_def_schema.specs.Claims.{is_list, is_object}
use Rattle.asl_def_schema.specs.Members.{Shape, kind_named, shape_in, sort_at, item_sort}

-- a state: its name, its type where that is known, and the numbers on the way to it, from the
-- outermost in
pub record Stated : Type 0 where
  pub name : List ℕ
  pub kind : Option Kind
  pub place : List ℕ

-- as it is seen from one step further out
abbrev pub further : ℕ → Stated → Stated
further i s = record s { place = i ∷ s.place }

-- a value by itself, where it is a state
abbrev pub own_state : Sort → List ℕ → Data → List Stated
own_state State k d =
    record { name = k; kind = kind_named (value_in (codes "Type") d); place = [] } ∷ []
own_state s k d = []

abbrev mutual
  pub states_in : Sort → Data → List Stated
  states_in s null = []
  states_in s (boolean b) = []
  states_in s (number n) = []
  states_in s (text t) = []
  states_in s (list ds) = if is_list s then item_states (item_sort s) 0 ds else []
  states_in s (dict ms) = if is_object s then member_states (shape_in s ms) 0 ms else []

  pub item_states : Sort → ℕ → Chain → List Stated
  item_states s i no_items = []
  item_states s i (item d ds) = map (further i) (states_in s d) ++ item_states s (suc i) ds

  pub member_states : Shape → ℕ → Pairs → List Stated
  member_states sh i no_members = []
  member_states sh i (member k d ms) =
      map (further i) (own_state (sort_at sh k) k d ++ states_in (sort_at sh k) d)
      ++ member_states sh (suc i) ms

-- in document order
abbrev pub states_of : Data → List Stated
states_of d = states_in Definition d
