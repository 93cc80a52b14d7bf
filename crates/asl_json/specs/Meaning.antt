-- Values that mean the same. Numbers by units, lists item by item, objects as sets of pairs (their
-- keys are distinct).
use Rattle.std.specs.Prelude.{ℕ, suc, List, Bool, true, false, ◌&&◌, ◌==◌, Option, Some, None, if◌then◌else◌}
use Rattle.std.specs.Ordering.{int_eq}
use Rattle.std.specs.Option.{option_map_or}
use Rattle.asl_json_data.specs.Data.{Data, null, boolean, number, text, list, dict, Chain, no_items, item, Pairs, no_members, member}
use Rattle.asl_json_data.specs.Number.{units_of}
use Rattle.asl_json.specs.Same.{bool_eq, bytes_eq}

abbrev pub count : Pairs → ℕ
count no_members = 0
count (member k d ms) = suc (count ms)

-- the value at a key
abbrev pub value_at : List ℕ → Pairs → Option Data
value_at k no_members = None
value_at k (member l d ms) = if bytes_eq k l then Some d else value_at k ms

-- the value at a key of an object
abbrev pub value_in : List ℕ → Data → Option Data
value_in k (dict ms) = value_at k ms
value_in k _ = None

abbrev mutual
  pub same : Data → Data → Bool
  same null null = true
  same (boolean a) (boolean b) = bool_eq a b
  same (number a) (number b) = int_eq (units_of a) (units_of b)
  same (text a) (text b) = bytes_eq a b
  same (list a) (list b) = same_items a b
  same (dict a) (dict b) = (count a == count b) && each_in a b
  same a b = false

  pub same_items : Chain → Chain → Bool
  same_items no_items no_items = true
  same_items (item d ds) (item e es) = same d e && same_items ds es
  same_items a b = false

  -- each member has its like there
  pub each_in : Pairs → Pairs → Bool
  each_in no_members ns = true
  each_in (member k d ms) ns = option_map_or (same d) (value_at k ns) false && each_in ms ns
