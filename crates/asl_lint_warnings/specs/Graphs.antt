-- Where the states of a machine lead. States go by their numbers, from 0.
use Rattle.std.specs.Prelude.{ℕ, zero, suc, List, [], ◌∷◌, ◌++◌, Bool, true, false, ◌||◌, ◌&&◌, not, ◌==◌, Option, Some, None, is_some, if◌then◌else◌, codes, nat_lt, get_or}
use Rattle.std.specs.List.{list_any}
use Rattle.std.specs.Option.{option_to_list}
use Rattle.asl_json_data.specs.Data.{Data, text, Chain, no_items, item, Pairs, no_members, member}
use Rattle.asl_json.specs.Same.{bytes_eq}
use Rattle.asl_json.specs.Meaning.{value_at, value_in, count}
use Rattle.asl_json.specs.Access.{members_of_any}
use Rattle.asl_def_schema.specs.Claims.{is_true}
use Rattle.asl_lint_warnings.specs.Handlers.{items_in}

-- ---- where a state leads

abbrev pub name_in : Option Data → List (List ℕ)
name_in (Some (text t)) = t ∷ []
name_in _ = []

-- of each rule or catcher
abbrev pub next_of : Chain → List (List ℕ)
next_of no_items = []
next_of (item d ds) = name_in (value_in (codes "Next") d) ++ next_of ds

-- the names of the states that a state leads to
abbrev pub targets : Data → List (List ℕ)
targets d =
    name_in (value_in (codes "Next") d) ++ name_in (value_in (codes "Default") d)
    ++ next_of (items_in (value_in (codes "Choices") d))
    ++ next_of (items_in (value_in (codes "Catch") d))

-- the number of the state of this name, counted from i; as before, where it is none of these
abbrev pub place_from : ℕ → Option ℕ → Pairs → List ℕ → Option ℕ
place_from i before no_members k = before
place_from i before (member l d ms) k =
    place_from (suc i) (if bytes_eq l k then Some i else before) ms k

abbrev pub place_of : Pairs → List ℕ → Option ℕ
place_of ms k = place_from 0 None ms k

-- the numbers of the states of these names, by where each stands
abbrev pub numbers_of : (List ℕ → Option ℕ) → List (List ℕ) → List ℕ
numbers_of place [] = []
numbers_of place (t ∷ ts) = option_to_list (place t) ++ numbers_of place ts

abbrev pub edges_from : (List ℕ → Option ℕ) → Pairs → List (List ℕ)
edges_from place no_members = []
edges_from place (member k d ms) = numbers_of place (targets d) ∷ edges_from place ms

-- from each state to those that it leads to
abbrev pub edges_of : Pairs → List (List ℕ)
edges_of ms = edges_from (place_of ms) ms

abbrev pub is_in : List ℕ → ℕ → Bool
is_in [] i = false
is_in (x ∷ xs) i = (i == x) || is_in xs i

abbrev pub leads : List (List ℕ) → ℕ → ℕ → Bool
leads es i j = is_in (get_or es i []) j

-- a way from the one to the other along edges, through no nodes but the first so many
abbrev pub joins : List (List ℕ) → ℕ → ℕ → ℕ → Bool
joins es zero i j = (i == j) || leads es i j
joins es (suc k) i j = joins es k i j || (joins es k i k && joins es k k j)

-- ---- where a machine begins and ends

abbrev pub states_of : Pairs → Pairs
states_of machine = members_of_any (value_at (codes "States") machine)

abbrev pub numbers_below : ℕ → List ℕ
numbers_below zero = []
numbers_below (suc n) = numbers_below n ++ n ∷ []

abbrev pub this_or_all : ℕ → Option ℕ → List ℕ
this_or_all n (Some i) = i ∷ []
this_or_all n None = numbers_below n

abbrev pub place_named : (List ℕ → Option ℕ) → Option Data → Option ℕ
place_named place (Some (text t)) = place t
place_named place _ = None

-- with the state that `StartAt` names; with any, where it names none, since that is a fault
abbrev pub starts_of : Pairs → Option Data → List ℕ
starts_of ms start = this_or_all (count ms) (place_named (place_of ms) start)

abbrev pub leads_astray : (List ℕ → Option ℕ) → List (List ℕ) → Bool
leads_astray place [] = false
leads_astray place (t ∷ ts) = not (is_some (place t)) || leads_astray place ts

abbrev pub is_empty : List (List ℕ) → Bool
is_empty [] = true
is_empty (t ∷ ts) = false

abbrev pub is_last : Option Data → Bool
is_last (Some d) = is_true d
is_last None = false

-- with a state that has `"End": true`, or leads nowhere, as Succeed and Fail; also with one that leads to
-- what is no state, since that is a fault
abbrev pub is_end : (List ℕ → Option ℕ) → Data → Bool
is_end place d =
    is_last (value_in (codes "End") d) || is_empty (targets d) || leads_astray place (targets d)

abbrev pub ends_from : (List ℕ → Option ℕ) → ℕ → Pairs → List ℕ
ends_from place i no_members = []
ends_from place i (member k d ms) =
    (if is_end place d then i ∷ [] else []) ++ ends_from place (suc i) ms

abbrev pub ends_of : Pairs → List ℕ
ends_of ms = ends_from (place_of ms) 0 ms

-- ---- how the states of a machine stand

-- a way leads to the state of this number from a start
abbrev pub is_reached : Pairs → ℕ → Bool
is_reached machine i =
    nat_lt i (count (states_of machine))
    && list_any (λ s. joins (edges_of (states_of machine)) (count (states_of machine)) s i)
    (starts_of (states_of machine) (value_at (codes "StartAt") machine))

-- a way leads from the state of this number to an end
abbrev pub is_ending : Pairs → ℕ → Bool
is_ending machine i =
    nat_lt i (count (states_of machine))
    && list_any (λ e. joins (edges_of (states_of machine)) (count (states_of machine)) i e)
    (ends_of (states_of machine))
