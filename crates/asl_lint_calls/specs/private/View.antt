-- What a clause sees of what is known.
use Rattle.std.specs.Prelude.{List, map, option_map, Option, Some, None}
use Rattle.asl_json.specs.View.{data_of}
use Rattle.asl_lint_calls.specs.declared.known.Known as code
use Rattle.asl_lint_calls.specs.declared.known.Known.TheVariants.{Any, Value, Never}
use Rattle.asl_lint_calls.specs.declared.failure.Failure.{Failure}
use Rattle.asl_lint_calls.specs.Known.{Known, any, value, never}

abbrev pub seen : code.Known → Known
seen Any = any
seen (Value w v) = value (option_map (λ t. t.now) w) (data_of v)
seen (Never f) = never f

abbrev pub all_seen : List code.Known → List Known
all_seen ks = map seen ks

abbrev pub failure_known : Option Known → Option Failure
failure_known (Some (never w)) = Some w
failure_known o = None
