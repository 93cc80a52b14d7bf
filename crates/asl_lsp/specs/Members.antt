-- Parts of parameters (Language Server Protocol 3.17, "Base Types").
use Rattle.std.specs.Prelude.{ℕ, ℤ, pos, Bool, nat_le, List, Option, Some, None, if◌then◌else◌}
use Rattle.asl_json_data.specs.Data.{Data, boolean, number, text, Chain, no_items, item}
use Rattle.asl_json.specs.Access.{items_in}
use Rattle.asl_json.specs.Meaning.{value_in}
use Rattle.asl_json.specs.Whole.{whole_of}
use Rattle.asl_json_rpc.specs.Calls.{is_whole}

-- the value under a key of an object, where there is one
abbrev pub member_of : List ℕ → Option Data → Option Data
member_of k None = None
member_of k (Some d) = value_in k d

-- the text that a value is
abbrev pub text_of : Option Data → Option (List ℕ)
text_of (Some (text s)) = Some s
text_of o = None

-- the integer that a value is, as it is spelled
abbrev pub integer_of : Option Data → Option (List ℕ)
integer_of (Some (number s)) = if is_whole s then Some s else None
integer_of o = None

-- a number of the protocol: a whole number from 0 to 2 ^ 31 - 1 ("Base Types")
abbrev pub uinteger_in : Option ℤ → Option ℕ
uinteger_in (Some (pos n)) = if nat_le n 2147483647 then Some n else None
uinteger_in o = None

abbrev pub uinteger_of : Option Data → Option ℕ
uinteger_of (Some (number s)) = uinteger_in (whole_of s)
uinteger_of o = None

abbrev pub boolean_of : Option Data → Option Bool
boolean_of (Some (boolean b)) = Some b
boolean_of o = None

-- the items of a list; any other value has none
abbrev pub items_of_any : Option Data → Chain
items_of_any None = no_items
items_of_any (Some d) = items_in d

-- the last of these, else the one before them
abbrev pub last_item : Option Data → Chain → Option Data
last_item o no_items = o
last_item o (item d ds) = last_item (Some d) ds
