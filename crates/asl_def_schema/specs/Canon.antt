-- The canonical form of a definition: members in the order of the table, and `End: false` left out.
use Rattle.std.specs.Prelude.{ℕ, List, [], ◌∷◌, ◌++◌, Bool, true, false, Option, Some, None, if◌then◌else◌, codes, option_map}
use Rattle.asl_json_data.specs.Data.{Data, null, boolean, number, text, list, dict, Chain, no_items, item, Pairs, no_members, member, pairs}
use Rattle.asl_json.specs.Same.{bytes_eq}
use Rattle.asl_json.specs.Meaning.{value_at}
use Rattle.asl_def_schema.specs.Members.{Row, Shape, shape_in, sort_at, item_sort}
use Rattle.asl_def_schema.specs.declared.sort.Sort.{Sort}
use Rattle.asl_def_schema.specs.declared.sort.Sort.TheVariants as sort
use Rattle.asl_def_schema.specs.declared.sort.Kind.{Kind}
use Rattle.asl_def_schema.specs.declared.sort.Kind.TheVariants as kind

-- a name and its value
abbrev pub Named : Type 0
Named = List ℕ × Data

-- a member, where it is there
abbrev pub opt : List ℕ → Option Data → List Named
opt k None = []
opt k (Some d) = (k, d) ∷ []

-- the members that are there, of these names
abbrev pub present : List (List ℕ × Option Data) → List Named
present [] = []
present (m ∷ ms) = opt m.0 m.1 ++ present ms

-- a false End counts as absent
abbrev pub kept : List ℕ → Option Data → Option Data
kept k (Some (boolean false)) = if bytes_eq k (codes "End") then None else Some (boolean false)
kept k (Some (boolean true)) = Some (boolean true)
kept k (Some null) = Some null
kept k (Some (number n)) = Some (number n)
kept k (Some (text t)) = Some (text t)
kept k (Some (list ds)) = Some (list ds)
kept k (Some (dict ms)) = Some (dict ms)
kept k None = None

-- the members of these rows, in the order of the rows
abbrev pub picked : List Row → Pairs → List Named
picked [] ms = []
picked (r ∷ rs) ms = opt r.name (kept r.name (value_at r.name ms)) ++ picked rs ms

-- an object of this sort with these members, of which the second list is canonical; states stay in
-- their order
abbrev pub arranged : Sort → List Row → Pairs → Pairs → Data
arranged sort.Definition rs ms cs = dict (pairs (picked rs cs))
arranged sort.Machine rs ms cs = dict (pairs (picked rs cs))
arranged sort.ItemProcessor rs ms cs = dict (pairs (picked rs cs))
arranged sort.State rs ms cs = dict (pairs (picked rs cs))
arranged sort.Rule rs ms cs = dict (pairs (picked rs cs))
arranged sort.InnerRule rs ms cs = dict (pairs (picked rs cs))
arranged sort.Retrier rs ms cs = dict (pairs (picked rs cs))
arranged sort.Catcher rs ms cs = dict (pairs (picked rs cs))
arranged sort.States rs ms cs = dict cs
arranged _ rs ms cs = dict ms

-- a list of this sort with these items, of which the second list is canonical
abbrev pub listed : Sort → Chain → Chain → Data
listed sort.Machines ds cs = list cs
listed sort.Rules ds cs = list cs
listed sort.InnerRules ds cs = list cs
listed sort.Retriers ds cs = list cs
listed sort.Catchers ds cs = list cs
listed _ ds cs = list ds

abbrev mutual
  pub canon : Sort → Data → Data
  canon s null = null
  canon s (boolean b) = boolean b
  canon s (number n) = number n
  canon s (text t) = text t
  canon s (list ds) = listed s ds (canon_items (item_sort s) ds)
  canon s (dict ms) = arranged s (shape_in s ms).rows ms (canon_members (shape_in s ms) ms)

  pub canon_items : Sort → Chain → Chain
  canon_items s no_items = no_items
  canon_items s (item d ds) = item (canon s d) (canon_items s ds)

  pub canon_members : Shape → Pairs → Pairs
  canon_members sh no_members = no_members
  canon_members sh (member k d ms) = member k (canon (sort_at sh k) d) (canon_members sh ms)

-- what the canonical object has at a name
abbrev pub kept_at : List ℕ → Sort → Pairs → Option Data
kept_at k s ms = kept k (option_map (canon s) (value_at k ms))

abbrev pub picked_at : Shape → List Row → Pairs → List Named
picked_at sh [] ms = []
picked_at sh (r ∷ rs) ms = opt r.name (kept_at r.name (sort_at sh r.name) ms) ++ picked_at sh rs ms

-- the text that names a type
abbrev pub kind_text : Kind → List ℕ
kind_text kind.Task = codes "Task"
kind_text kind.Pass = codes "Pass"
kind_text kind.Choice = codes "Choice"
kind_text kind.Wait = codes "Wait"
kind_text kind.Parallel = codes "Parallel"
kind_text kind.Map = codes "Map"
kind_text kind.Succeed = codes "Succeed"
kind_text kind.Fail = codes "Fail"

-- what isn't put in order, nor what it holds
abbrev pub is_plain : Sort → Bool
is_plain sort.Definition = false
is_plain sort.Machine = false
is_plain sort.ItemProcessor = false
is_plain sort.Machines = false
is_plain sort.States = false
is_plain sort.State = false
is_plain sort.Rules = false
is_plain sort.Rule = false
is_plain sort.InnerRules = false
is_plain sort.InnerRule = false
is_plain sort.Retriers = false
is_plain sort.Retrier = false
is_plain sort.Catchers = false
is_plain sort.Catcher = false
is_plain s = true

abbrev pub canonical : Data → Data
canonical d = canon sort.Definition d
