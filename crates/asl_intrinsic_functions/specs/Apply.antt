-- Each function of the values of its arguments.
use Rattle.std.specs.Prelude.{ℕ, List, [], ◌∷◌, Option}
use Rattle.asl_json_data.specs.Data.{Data}
use Rattle.asl_intrinsic_functions.specs.declared.fault.Reason.TheVariants as reason
use Rattle.asl_intrinsic_functions.specs.declared.function.Function.{Function}
use Rattle.asl_intrinsic_functions.specs.declared.function.Function.TheVariants.{Format, StringToJson, JsonToString, Array, ArrayPartition, ArrayContains, ArrayRange, ArrayGetItem, ArrayLength, ArrayUnique, Base64Encode, Base64Decode, Hash, JsonMerge, MathAdd, StringSplit}
use Rattle.asl_intrinsic_functions.specs.Outcome.{Outcome, fails}
use Rattle.asl_intrinsic_functions.specs.Lists.{array, array_partition, array_contains, array_range, array_get_item, array_length, array_unique}
use Rattle.asl_intrinsic_functions.specs.Format.{format}
use Rattle.asl_intrinsic_functions.specs.Texts.{string_to_json, json_to_string, string_split, math_add}
use Rattle.asl_intrinsic_functions.specs.Coding.{base64_encode, base64_decode, hash}
use Rattle.asl_intrinsic_functions.specs.Merge.{json_merge}

-- functions of one value, of two and of three; how many one takes is judged when a call is read
abbrev pub of_one : Function → Data → Outcome Data
of_one StringToJson d = string_to_json d
of_one JsonToString d = json_to_string d
of_one ArrayLength d = array_length d
of_one ArrayUnique d = array_unique d
of_one Base64Encode d = base64_encode d
of_one Base64Decode d = base64_decode d
of_one f d = fails reason.Count

abbrev pub of_two : Function → Data → Data → Outcome Data
of_two ArrayPartition d e = array_partition d e
of_two ArrayContains d e = array_contains d e
of_two ArrayGetItem d e = array_get_item d e
of_two Hash d e = hash d e
of_two MathAdd d e = math_add d e
of_two StringSplit d e = string_split d e
of_two f d e = fails reason.Count

abbrev pub of_three : Function → Data → Data → Data → Outcome Data
of_three ArrayRange d e f = array_range d e f
of_three JsonMerge d e f = json_merge d e f
of_three g d e f = fails reason.Count

abbrev pub by_count : Function → List Data → Outcome Data
by_count f (d ∷ []) = of_one f d
by_count f (d ∷ e ∷ []) = of_two f d e
by_count f (d ∷ e ∷ g ∷ []) = of_three f d e g
by_count f ds = fails reason.Count

abbrev pub with_template : Option (List ℕ) → List Data → Outcome Data
with_template w [] = fails reason.Count
with_template w (d ∷ ds) = format w d ds

-- a function of values; w is the first argument as it is written, where it stands between
-- apostrophes
abbrev pub apply : Function → Option (List ℕ) → List Data → Outcome Data
apply Array w ds = array ds
apply Format w ds = with_template w ds
apply f w ds = by_count f ds
