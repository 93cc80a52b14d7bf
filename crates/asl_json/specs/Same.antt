-- Equal values, spelling and order of members included.
use Rattle.std.specs.Prelude.{ℕ, List, Bool, true, false, ◌&&◌, nat_eq}
use Rattle.std.specs.Cmp.Lexicographic.{pointwise}
use Rattle.asl_json_data.specs.Data.{Data, null, boolean, number, text, list, dict, Chain, no_items, item, Pairs, no_members, member}
use Rattle.asl_json.specs.View.{data_of}
use Rattle.asl_json.specs.declared.value.Json.{Json}

abbrev pub bool_eq : Bool → Bool → Bool
bool_eq true true = true
bool_eq true false = false
bool_eq false true = false
bool_eq false false = true

abbrev pub bytes_eq : List ℕ → List ℕ → Bool
bytes_eq = pointwise nat_eq

abbrev mutual
  pub equal : Data → Data → Bool
  equal null null = true
  equal (boolean a) (boolean b) = bool_eq a b
  equal (number a) (number b) = bytes_eq a b
  equal (text a) (text b) = bytes_eq a b
  equal (list a) (list b) = equal_items a b
  equal (dict a) (dict b) = equal_members a b
  equal a b = false

  pub equal_items : Chain → Chain → Bool
  equal_items no_items no_items = true
  equal_items (item d ds) (item e es) = equal d e && equal_items ds es
  equal_items a b = false

  pub equal_members : Pairs → Pairs → Bool
  equal_members no_members no_members = true
  equal_members (member k d ms) (member l e ns) = bytes_eq k l && (equal d e && equal_members ms ns)
  equal_members a b = false

-- the same of values as the program has them, and of the items of two lists
abbrev pub json_equal : Json → Json → Bool
json_equal a b = equal (data_of a) (data_of b)

abbrev pub items_equal : List Data → List Data → Bool
items_equal = pointwise equal
