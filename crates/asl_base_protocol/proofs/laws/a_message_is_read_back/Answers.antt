use Rattle.asl_base_protocol.proofs.Back.{read_back}
use Rattle.asl_base_protocol.proofs.laws.a_message_is_read_back.Goals as goal

pub returns : goal.returns
returns c = λ content small. read_back content small
