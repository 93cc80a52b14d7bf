use Rattle.asl_base_protocol.proofs.Reading.{reads_both}
use Rattle.asl_base_protocol.proofs.laws.chunks_make_no_difference.Goals as goal

pub returns : goal.returns
returns c = λ is js r s first next h g. reads_both is js r s first next h g
