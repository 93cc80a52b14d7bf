use Rattle.std.proofs.Common.{true}
use Rattle.asl_json_scan.proofs.Passing.{text_read}
use Rattle.asl_json_read.proofs.Faulting.{same_value}
use Rattle.asl_json_read.proofs.judging.a_text_is_read_as_one_value.Goals as goal

pub returns : goal.returns
returns c = λ b v w h g. same_value b v w (text_read true v b h.reads.0 h.reads.1) g.reads
