-- What a clause sees of the values of arguments.
use Rattle.std.specs.Prelude.{List, map}
use Rattle.asl_json_data.specs.Data.{Data}
use Rattle.asl_json.specs.View.{data_of}
use Rattle.asl_intrinsic_functions.specs.declared.value.Value.{Value}
use Rattle.asl_intrinsic_functions.specs.declared.value.Value.TheVariants.{Lent, Made}

abbrev pub seen : Value → Data
seen (Lent v) = data_of v.now
seen (Made v) = data_of v

abbrev pub all_seen : List Value → List Data
all_seen vs = map seen vs
