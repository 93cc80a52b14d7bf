-- A definition in the newer spelling of Map states. (Amazon States Language, "Map State".)
use Rattle.std.specs.Prelude.{ℕ, List, Bool, true, false, Option, Some, if◌then◌else◌, codes, map}
use Rattle.asl_json_data.specs.Data.{Data, null, boolean, number, text, list, dict, Chain, no_items, item, Pairs, no_members, member}
use Rattle.asl_json.specs.Same.{bytes_eq}
use Rattle.asl_json.specs.Meaning.{value_at}
use Rattle.asl_def_schema.specs.declared.sort.Sort.{Sort}
use Rattle.asl_def_schema.specs.declared.sort.Sort.TheVariants as sort
use Rattle.asl_def_schema.specs.declared.sort.Kind.{Kind}
use Rattle.asl_def_schema.specs.declared.sort.Kind.TheVariants as kind
use Rattle.asl_def_schema.specs.Members.{Shape, shape_in, sort_at, item_sort, kind_named}
use Rattle.asl_def_schema.specs.Canon.{Named}
use Rattle.asl_def.specs.Machines.{holds_states}

-- the newer name of a member of a Map
abbrev pub newer : List ℕ → List ℕ
newer k =
    if bytes_eq k (codes "Iterator") then codes "ItemProcessor"
    else if bytes_eq k (codes "Parameters") then codes "ItemSelector"
    else k

abbrev pub renamed : Bool → List ℕ → List ℕ
renamed b k = if b then newer k else k

abbrev pub names_map : Option Kind → Bool
names_map (Some kind.Map) = true
names_map o = false

abbrev pub is_map : Sort → Option Kind → Bool
is_map sort.State o = names_map o
is_map s o = false

-- whether an object is a state of type Map
abbrev pub map_in : Sort → Pairs → Bool
map_in s ms = is_map s (kind_named (value_at (codes "Type") ms))

-- the members of each state of type Map have their newer names; nothing else is changed
abbrev mutual
  pub newer_value : Sort → Data → Data
  newer_value s null = null
  newer_value s (boolean b) = boolean b
  newer_value s (number n) = number n
  newer_value s (text t) = text t
  newer_value s (list ds) = if holds_states s then list (newer_items (item_sort s) ds) else list ds
  newer_value s (dict ms) =
      if holds_states s then dict (newer_members (map_in s ms) (shape_in s ms) ms) else dict ms

  pub newer_items : Sort → Chain → Chain
  newer_items s no_items = no_items
  newer_items s (item d ds) = item (newer_value s d) (newer_items s ds)

  pub newer_members : Bool → Shape → Pairs → Pairs
  newer_members b sh no_members = no_members
  newer_members b sh (member k d ms) =
      member (renamed b k) (newer_value (sort_at sh k) d) (newer_members b sh ms)

-- the definition in the newer spelling
abbrev pub upgraded : Data → Data
upgraded d = newer_value sort.Definition d

-- states in the newer spelling, with their names
abbrev pub newer_row : Named → Named
newer_row m = (m.0, newer_value sort.State m.1)

abbrev pub newer_rows : List Named → List Named
newer_rows ms = map newer_row ms
