-- The values in a value, in document order, each with what stands open before it in a text.
use Rattle.std.specs.Prelude.{ℕ, zero, suc, List, [], ◌∷◌, ◌++◌, Option, Some, None}
use Rattle.asl_json_data.specs.Data.{Data, null, boolean, number, text, list, dict, Chain, no_items, item, Pairs, no_members, member}
use Rattle.asl_json_data.specs.Distinct.{Members}
use Rattle.asl_json_scan.specs.Open.{Frame, in_list, in_dict}

-- a value, and the lists and objects that it stands in, the innermost first: each with the items or
-- members before it, an object also with its key
pub record Place : Type 0 where
  pub within : List Frame
  pub value : Data

abbrev pub place : List Frame → Data → Place
place st d = record { within = st; value = d }

-- a value, and the values in it
abbrev mutual
  pub places : List Frame → Data → List Place
  places st null = place st null ∷ []
  places st (boolean b) = place st (boolean b) ∷ []
  places st (number s) = place st (number s) ∷ []
  places st (text s) = place st (text s) ∷ []
  places st (list ds) = place st (list ds) ∷ item_places st [] ds
  places st (dict ms) = place st (dict ms) ∷ member_places st [] ms

  -- behind these items of the list
  pub item_places : List Frame → List Data → Chain → List Place
  item_places st seen no_items = []
  item_places st seen (item d ds) =
      places (in_list seen ∷ st) d ++ item_places st (seen ++ d ∷ []) ds

  -- behind these members of the object
  pub member_places : List Frame → Members → Pairs → List Place
  member_places st seen no_members = []
  member_places st seen (member k d ms) =
      places (in_dict seen k ∷ st) d ++ member_places st (seen ++ (k, d) ∷ []) ms

-- the values in it alone
abbrev pub part_places : List Frame → Data → List Place
part_places st (list ds) = item_places st [] ds
part_places st (dict ms) = member_places st [] ms
part_places st _ = []

-- ---- by the numbers of items and members, from 0

abbrev pub item_at : List Frame → List Data → Chain → ℕ → Option Place
item_at st seen no_items i = None
item_at st seen (item d ds) zero = Some (place (in_list seen ∷ st) d)
item_at st seen (item d ds) (suc i) = item_at st (seen ++ d ∷ []) ds i

abbrev pub member_at : List Frame → Members → Pairs → ℕ → Option Place
member_at st seen no_members i = None
member_at st seen (member k d ms) zero = Some (place (in_dict seen k ∷ st) d)
member_at st seen (member k d ms) (suc i) = member_at st (seen ++ (k, d) ∷ []) ms i

-- the item or member of this number
abbrev pub part_at : List Frame → Data → ℕ → Option Place
part_at st (list ds) i = item_at st [] ds i
part_at st (dict ms) i = member_at st [] ms i
part_at st _ i = None

abbrev pub part_of : Option Place → ℕ → Option Place
part_of None i = None
part_of (Some p) i = part_at p.within p.value i

-- the value at these steps from a place in
abbrev pub place_at : Option Place → List ℕ → Option Place
place_at o [] = o
place_at o (i ∷ is) = place_at (part_of o i) is
