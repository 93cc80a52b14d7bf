-- Reaching a part of a list or an object.
use Rattle.std.specs.Prelude.{ℕ, zero, suc, Bool, true, false, List, [], ◌∷◌, Option, Some, None, if◌then◌else◌, option_map, nat_eq}
use Rattle.std.specs.Cmp.Lexicographic.{pointwise}
use Rattle.asl_json_data.specs.Data.{Data, list, dict, Chain, no_items, Pairs, no_members}
use Rattle.asl_json_data.specs.Distinct.{Members}
use Rattle.asl_json.specs.Meaning.{value_in}
use Rattle.asl_json.specs.View.{unpaired}

-- the number of the member with this key
abbrev pub key_index : List ℕ → List (List ℕ × Data) → Option ℕ
key_index k [] = None
key_index k (m ∷ ms) = if pointwise nat_eq k m.0 then Some 0 else option_map suc (key_index k ms)

-- these members with another value at number i
abbrev pub with_value : List (List ℕ × Data) → ℕ → Data → List (List ℕ × Data)
with_value [] i d = []
with_value (m ∷ ms) zero d = (m.0, d) ∷ ms
with_value (m ∷ ms) (suc i) d = m ∷ with_value ms i d

-- the members of an object, and the items of a list; any other value, and none, has none
abbrev pub members_in : Data → Pairs
members_in (dict ms) = ms
members_in d = no_members

abbrev pub members_of_any : Option Data → Pairs
members_of_any None = no_members
members_of_any (Some d) = members_in d

-- these members as a list: of a value, and of the value under a key
abbrev pub member_list : Data → Members
member_list d = unpaired (members_in d)

abbrev pub member_list_at : List ℕ → Data → Members
member_list_at k d = unpaired (members_of_any (value_in k d))

abbrev pub items_in : Data → Chain
items_in (list ds) = ds
items_in d = no_items

abbrev pub is_list : Data → Bool
is_list (list ds) = true
is_list v = false

abbrev pub is_dict : Data → Bool
is_dict (dict ms) = true
is_dict v = false
