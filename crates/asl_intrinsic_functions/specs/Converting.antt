-- What a function takes an argument as; an argument of another type is unfit.
use Rattle.std.specs.Prelude.{ℕ, ℤ, ◌^◌, nat_lt, unsigned_abs, if◌then◌else◌, List}
use Rattle.std.specs.Fmt.{signed_decimal}
use Rattle.asl_json_data.specs.Data.{Data, number, text, list, dict}
use Rattle.asl_json.specs.View.{unchained, unpaired}
use Rattle.asl_json.specs.Whole.{whole_of}
use Rattle.asl_intrinsic_functions.specs.Outcome.{Outcome, fails, or_fails}
use Rattle.std.specs.Prelude.{Ok}
use Rattle.asl_intrinsic_functions.specs.declared.fault.Reason.TheVariants.{Unfit, Range}

abbrev pub text_in : Data → Outcome (List ℕ)
text_in (text t) = Ok t
text_in d = fails Unfit

abbrev pub list_in : Data → Outcome (List Data)
list_in (list ds) = Ok (unchained ds)
list_in d = fails Unfit

abbrev pub object_in : Data → Outcome (List (List ℕ × Data))
object_in (dict ms) = Ok (unpaired ms)
object_in d = fails Unfit

-- a number by its spelling
abbrev pub number_in : Data → Outcome (List ℕ)
number_in (number s) = Ok s
number_in d = fails Unfit

-- a number's whole value: this project doesn't round
abbrev pub whole : List ℕ → Outcome ℤ
whole s = or_fails Range (whole_of s)

-- a whole number in plain decimal
abbrev pub whole_number : ℤ → Data
whole_number z = number (signed_decimal z)

-- the same, where its amount is below 10 ^ 18
abbrev pub computed : ℤ → Outcome Data
computed z = if nat_lt (unsigned_abs z) (10 ^ 18) then Ok (whole_number z) else fails Range
