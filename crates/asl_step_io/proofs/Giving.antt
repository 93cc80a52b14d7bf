-- A value is the one of its data.
use Rattle.std.proofs.Common.{◌≡◌, Option, Some, Ok, ap, ◌∙◌}
use Rattle.asl_json_data.specs.Data.{Data}
use Rattle.asl_json.specs.View.{data_of, json_of-data_of}
use Rattle.asl_json.specs.declared.value.Json.{Json}
use Rattle.asl_step.specs.declared.record.ErrorOut.{ErrorOut}
use Rattle.asl_step_io.specs.Paths.{given_or}

pub given_some : (e : ErrorOut) (o : Option Data) (v : Json) → o ≡ Some (data_of v) → given_or e o ≡ Ok v
given_some e o v is = ap (given_or e) is ∙ ap (λ (w : Json). Ok w) (json_of-data_of v)
