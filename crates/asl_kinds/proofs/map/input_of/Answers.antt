use Rattle.std.proofs.Common.{ap}
use Rattle.std.specs.Prelude.{Ok}
use Rattle.asl_json.specs.View.{json_of-data_of}
use Rattle.asl_json.specs.declared.value.Json.{Json}
use Rattle.asl_kinds.proofs.map.input_of.Goals as goal

pub returns-in-None-clause-given : goal.returns-in-None-clause-given
returns-in-None-clause-given c =
    rw c.in-None.is (ap (λ (j : Json). Ok j) (json_of-data_of c.args.item))
