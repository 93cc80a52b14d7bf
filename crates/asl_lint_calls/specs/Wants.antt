-- What each function takes as each of its arguments, whatever the others are (Amazon States
-- Language, "Intrinsic Functions").
use Rattle.std.specs.Prelude.{ℕ, ℤ, pos, int_lt, List, Bool, true, false, ◌||◌, ◌==◌, not, Option, Some, None, is_some, codes, if◌then◌else◌}
use Rattle.std.specs.Ordering.{int_eq}
use Rattle.asl_json_data.specs.Data.{Data, boolean, number, text, list, dict}
use Rattle.asl_json.specs.Same.{bytes_eq}
use Rattle.asl_json.specs.Whole.{whole_of}
use Rattle.asl_intrinsic_functions.specs.declared.function.Function.{Function}
use Rattle.asl_intrinsic_functions.specs.declared.function.Function.TheVariants.{Format, StringToJson, JsonToString, Array, ArrayPartition, ArrayContains, ArrayRange, ArrayGetItem, ArrayLength, ArrayUnique, Base64Encode, Base64Decode, Hash, JsonMerge, MathAdd, StringSplit}
use Rattle.asl_lint_calls.specs.declared.want.Want.{Want}
use Rattle.asl_lint_calls.specs.declared.want.Want.TheVariants.{Anything, Text, Plain, Items, Object, False, Algorithm, Whole, Size, Index, Step}

abbrev pub first_or : ℕ → Want → Want → Want
first_or i first other = if i == 0 then first else other

abbrev pub third_or : ℕ → Want → Want → Want
third_or i third other = if i == 2 then third else other

-- the argument of this number, counted from 0
abbrev pub wanted : Function → ℕ → Want
wanted Format i = first_or i Text Plain
wanted StringToJson i = Text
wanted JsonToString i = Anything
wanted Array i = Anything
wanted ArrayPartition i = first_or i Items Size
wanted ArrayContains i = first_or i Items Anything
wanted ArrayRange i = third_or i Step Whole
wanted ArrayGetItem i = first_or i Items Index
wanted ArrayLength i = Items
wanted ArrayUnique i = Items
wanted Base64Encode i = Text
wanted Base64Decode i = Text
wanted Hash i = first_or i Text Algorithm
wanted JsonMerge i = third_or i False Object
wanted MathAdd i = Whole
wanted StringSplit i = Text

abbrev pub is_algorithm : Data → Bool
is_algorithm (text g) =
    bytes_eq g (codes "MD5") || bytes_eq g (codes "SHA-1") || bytes_eq g (codes "SHA-256")
    || bytes_eq g (codes "SHA-384") || bytes_eq g (codes "SHA-512")
is_algorithm d = false

abbrev pub whole_value : Data → Option ℤ
whole_value (number s) = whole_of s
whole_value d = None

abbrev pub is_size : Option ℤ → Bool
is_size (Some z) = int_lt (pos 0) z
is_size None = false

abbrev pub is_index : Option ℤ → Bool
is_index (Some z) = not (int_lt z (pos 0))
is_index None = false

abbrev pub is_step : Option ℤ → Bool
is_step (Some z) = not (int_eq z (pos 0))
is_step None = false

abbrev pub is_text : Data → Bool
is_text (text t) = true
is_text d = false

-- neither a list nor an object
abbrev pub is_plain : Data → Bool
is_plain (list ds) = false
is_plain (dict ms) = false
is_plain d = true

abbrev pub is_items : Data → Bool
is_items (list ds) = true
is_items d = false

abbrev pub is_dict : Data → Bool
is_dict (dict ms) = true
is_dict d = false

abbrev pub is_false : Data → Bool
is_false (boolean false) = true
is_false d = false

abbrev pub fits : Want → Data → Bool
fits Anything d = true
fits Text d = is_text d
fits Plain d = is_plain d
fits Items d = is_items d
fits Object d = is_dict d
fits False d = is_false d
fits Algorithm d = is_algorithm d
fits Whole d = is_some (whole_value d)
fits Size d = is_size (whole_value d)
fits Index d = is_index (whole_value d)
fits Step d = is_step (whole_value d)
