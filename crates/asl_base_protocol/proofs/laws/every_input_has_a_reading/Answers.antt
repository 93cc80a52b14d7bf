use Rattle.asl_base_protocol.proofs.Total.{a_reading}
use Rattle.asl_base_protocol.proofs.laws.every_input_has_a_reading.Goals as goal

pub returns : goal.returns
returns c = λ input. a_reading input
