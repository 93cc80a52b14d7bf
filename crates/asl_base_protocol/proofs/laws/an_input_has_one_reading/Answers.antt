use Rattle.asl_base_protocol.proofs.Unique.{one_reading}
use Rattle.asl_base_protocol.proofs.laws.an_input_has_one_reading.Goals as goal

pub returns : goal.returns
returns c = λ input is js r s h g. one_reading is js r s input h g
