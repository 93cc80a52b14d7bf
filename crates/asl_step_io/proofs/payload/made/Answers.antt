use Rattle.asl_json.specs.View.{json_of-data_of}
use Rattle.asl_step_io.proofs.payload.made.Goals as goal

pub returns-in-Ok : goal.returns-in-Ok
returns-in-Ok c = rw (c.in-Ok.ensures, json_of-data_of c.in-Ok.value) c.owned.ensures
