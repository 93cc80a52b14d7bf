-- How one value differs from another: a line for each part that is only in the new one (+), only in
-- the old one (-), or is otherwise in the new one (~). Members are compared by their names, in whatever
-- order they stand, items by their numbers. A part is told by its place, a JSON Pointer (RFC 6901).
use Rattle.std.specs.Prelude.{ℕ, suc, List, [], ◌∷◌, ◌++◌, if◌then◌else◌, Option, Some, None, codes}
use Rattle.std.specs.Option.{option_map_or}
use Rattle.asl_json_data.specs.Data.{Data, list, dict, Chain, no_items, item, Pairs, no_members, member}
use Rattle.asl_json.specs.Same.{equal}
use Rattle.asl_json.specs.Meaning.{value_at}
use Rattle.asl_json_write.specs.Pointers.{name_part, index_part}
use Rattle.asl_text.specs.Shown.{shown}
use Rattle.asl_json_diff.specs.Shown.{short}

-- ---- lines. Each begins with the same lead

-- a mark and the place; the whole value has none
abbrev pub at_place : List ℕ → List ℕ → List ℕ
at_place mark [] = mark
at_place mark (b ∷ p) = mark ++ (shown (b ∷ p) ++ codes " ")

abbrev pub added : List ℕ → List ℕ → Data → List ℕ
added lead p d = lead ++ (at_place (codes "+ ") p ++ (short d ++ 10 ∷ []))

abbrev pub removed : List ℕ → List ℕ → Data → List ℕ
removed lead p d = lead ++ (at_place (codes "- ") p ++ (short d ++ 10 ∷ []))

abbrev pub replaced : List ℕ → List ℕ → Data → Data → List ℕ
replaced lead p d e =
    lead ++ (at_place (codes "~ ") p ++ (short d ++ (codes " -> " ++ (short e ++ 10 ∷ []))))

-- ---- parts that only one of two has

-- the items, numbered from i
abbrev pub items_added : List ℕ → List ℕ → ℕ → Chain → List ℕ
items_added lead p i no_items = []
items_added lead p i (item e es) =
    added lead (p ++ index_part i) e ++ items_added lead p (suc i) es

-- a member, unless the old object has a value under its key
abbrev pub added_unless : List ℕ → List ℕ → Option Data → Data → List ℕ
added_unless lead p None e = added lead p e
added_unless lead p (Some d) e = []

-- the members of the new object whose keys the old one has not
abbrev pub members_added : List ℕ → List ℕ → Pairs → Pairs → List ℕ
members_added lead p no_members ms = []
members_added lead p (member k e ns) ms =
    added_unless lead (p ++ name_part k) (value_at k ms) e ++ members_added lead p ns ms

-- ---- two values at a place

-- the first item, and those behind it
abbrev pub first_item : Chain → Option Data
first_item no_items = None
first_item (item e es) = Some e

abbrev pub later_items : Chain → Chain
later_items no_items = no_items
later_items (item e es) = es

abbrev mutual
  pub changes : List ℕ → List ℕ → Data → Data → List ℕ
  changes lead p (list ds) (list es) = item_changes lead p 0 ds es
  changes lead p (dict ms) (dict ns) = member_changes lead p ms ns ++ members_added lead p ns ms
  changes lead p d e = if equal d e then [] else replaced lead p d e

  -- the items, numbered from i
  pub item_changes : List ℕ → List ℕ → ℕ → Chain → Chain → List ℕ
  item_changes lead p i no_items es = items_added lead p i es
  item_changes lead p i (item d ds) es =
      option_map_or (changes lead (p ++ index_part i) d) (first_item es)
      (removed lead (p ++ index_part i) d)
      ++ item_changes lead p (suc i) ds (later_items es)

  -- the members of the old object
  pub member_changes : List ℕ → List ℕ → Pairs → Pairs → List ℕ
  member_changes lead p no_members ns = []
  member_changes lead p (member k d ms) ns =
      option_map_or (changes lead (p ++ name_part k) d) (value_at k ns)
      (removed lead (p ++ name_part k) d)
      ++ member_changes lead p ms ns

-- a part of the old value, and what stands in its place in the new one
abbrev pub part_change : List ℕ → List ℕ → Data → Option Data → List ℕ
part_change lead p d o = option_map_or (changes lead p d) o (removed lead p d)
