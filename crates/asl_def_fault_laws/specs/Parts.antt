-- What stands at a place of a definition, and what stands around it.
use Rattle.std.specs.Prelude.{ℕ, zero, suc, List, [], ◌∷◌, Bool, true, false, ◌&&◌, Option, Some, None, option_map, option_and_then, filter, if◌then◌else◌}
use Rattle.std.specs.Option.{option_map_or}
use Rattle.std.specs.Fmt.{decimal}
use Rattle.asl_json_data.specs.Data.{Data, list, dict, Chain, no_items, item, Pairs, no_members, member}
use Rattle.asl_json.specs.Same.{bytes_eq}
use Rattle.asl_def_schema.specs.declared.fault.Step.{Step}
use Rattle.asl_def_schema.specs.declared.sort.Sort.{Sort}
use Rattle.asl_def_schema.specs.declared.sort.Sort.TheVariants as sort
use Rattle.asl_def_schema.specs.Members.{shape_in, sort_at, item_sort}
use Rattle.asl_json.specs.Access.{members_of_any}
use Rattle.asl_def_schema.specs.Claims.{is_list, is_object, names_in}

-- a value in a definition, and what it is to be
pub record Part : Type 0 where
  pub sort : Sort
  pub value : Data

-- this value, which is to be this
abbrev pub part : Sort → Data → Part
part s d = record { sort = s; value = d }

-- the whole definition
abbrev pub whole : Data → Part
whole d = part sort.Definition d

-- the item of this number, from 0
abbrev pub item_at : ℕ → Chain → Option Data
item_at i no_items = None
item_at zero (item d ds) = Some d
item_at (suc i) (item d ds) = item_at i ds

-- the value of the member of this number, if it has this key
abbrev pub member_at : ℕ → List ℕ → Pairs → Option Data
member_at i k no_members = None
member_at zero k (member l d ms) = if bytes_eq k l then Some d else None
member_at (suc i) k (member l d ms) = member_at i k ms

-- the item or member that a step leads to, of a value that is searched
abbrev pub part_in : Sort → Data → Step → Option Part
part_in s (list ds) t =
    if is_list s && bytes_eq t.name (decimal t.at)
    then option_map (part (item_sort s)) (item_at t.at ds) else None
part_in s (dict ms) t =
    if is_object s
    then option_map (part (sort_at (shape_in s ms) t.name)) (member_at t.at t.name ms) else None
part_in s d t = None

-- the same of a part
abbrev pub next : Part → Step → Option Part
next x t = part_in x.sort x.value t

-- what stands at a place, where the search comes to something
abbrev pub part_at : Part → List Step → Option Part
part_at x [] = Some x
part_at x (t ∷ ts) = option_and_then (λ (y : Part). part_at y ts) (next x t)

-- what a place stands in, outermost first
abbrev pub parts_around : Part → List Step → List Part
parts_around x [] = []
parts_around x (t ∷ ts) = x ∷ option_map_or (λ (y : Part). parts_around y ts) (next x t) []

-- the whole definition, a branch of a Parallel, or the machine of a Map
abbrev pub is_machine : Sort → Bool
is_machine sort.Definition = true
is_machine sort.Machine = true
is_machine sort.ItemProcessor = true
is_machine s = false

-- the machines that a place stands in, outermost first
abbrev pub machines_around : Part → List Step → List Part
machines_around x ts = filter (λ (y : Part). is_machine y.sort) (parts_around x ts)

-- the last of them
abbrev pub innermost : List Part → Option Part
innermost [] = None
innermost (x ∷ []) = Some x
innermost (x ∷ y ∷ ys) = innermost (y ∷ ys)

-- whether a machine has a state of this name
abbrev pub has_state : Option Part → List ℕ → Bool
has_state None k = false
has_state (Some m) k = names_in (members_of_any (Some m.value)) k
