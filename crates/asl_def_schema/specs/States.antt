-- The states of a definition in document order, whose names are to differ.
use Rattle.std.specs.Prelude.{ℕ, suc, List, [], ◌∷◌, ◌++◌, not, if◌then◌else◌, map, ◌≡◌, Result, Ok, Err}
use Rattle.std.specs.Fmt.{decimal}
use Rattle.std.specs.declared.string.String.{String}
use Rattle.std.specs.HashSet.{HashSet, contains_text}
use Rattle.asl_def_schema.specs.First.{Hold, Each, Found, IsFirst}
use Rattle.asl_json_data.specs.Data.{Data, null, boolean, number, text, list, dict, Chain, no_items, item, Pairs, no_members, member}
use Rattle.asl_def_schema.specs.declared.fault.Step.{Step}
use Rattle.asl_def_schema.specs.declared.sort.Sort.{Sort}
use Rattle.asl_def_schema.specs.declared.sort.Sort.TheVariants.{State}
use Rattle.asl_def_schema.specs.Members.{Shape, shape_in, sort_at, item_sort, is_among}
use Rattle.asl_def_schema.specs.Demands.{unique}
use Rattle.asl_def_schema.specs.Claims.{Claim, step, is_list, is_object}

-- a state: its name and place
abbrev pub Named : Type 0
Named = List ℕ × List Step

abbrev pub further : Step → Named → Named
further s n = (n.0, s ∷ n.1)

abbrev pub own_name : Sort → List ℕ → List Named
own_name State k = (k, []) ∷ []
own_name s k = []

abbrev mutual
  pub states_in : Sort → Data → List Named
  states_in s null = []
  states_in s (boolean b) = []
  states_in s (number n) = []
  states_in s (text t) = []
  states_in s (list ds) = if is_list s then item_states (item_sort s) 0 ds else []
  states_in s (dict ms) = if is_object s then member_states (shape_in s ms) 0 ms else []

  pub item_states : Sort → ℕ → Chain → List Named
  item_states s i no_items = []
  item_states s i (item d ds) =
      map (further (step i (decimal i))) (states_in s d) ++ item_states s (suc i) ds

  pub member_states : Shape → ℕ → Pairs → List Named
  member_states sh i no_members = []
  member_states sh i (member k d ms) =
      map (further (step i k)) (own_name (sort_at sh k) k ++ states_in (sort_at sh k) d)
      ++ member_states sh (suc i) ms

-- behind states of these names
abbrev pub unique_claims : List (List ℕ) → List Named → List Claim
unique_claims seen [] = []
unique_claims seen (n ∷ ns) =
    (unique (not (is_among n.0 seen)), n.1) ∷ unique_claims (seen ++ n.0 ∷ []) ns

abbrev pub names_of : List Named → List (List ℕ)
names_of ns = map (λ (n : Named). n.0) ns

-- the set has these names and no others
abbrev pub Has : {Y S : Type 0} → HashSet (String Y) S → List (List ℕ) → Type 0
Has s ks = (k : List ℕ) → contains_text s k ≡ is_among k ks

-- behind states of these names: the first that has a name again, or the set of all names
abbrev pub Finds : {Y S : Type 0} → List (List ℕ) → List Named → Result (HashSet (String Y) S) Found
    → Type 0
Finds ks ns (Ok s) = Each Hold (unique_claims ks ns) × Has s (ks ++ names_of ns)
Finds ks ns (Err f) = IsFirst (unique_claims ks ns) f
