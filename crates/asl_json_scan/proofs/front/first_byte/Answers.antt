use Rattle.std.proofs.Common.{arith}
use Rattle.std.proofs.lemmas.List.{take_rest}
use Rattle.asl_json_scan.proofs.Fronts.{utf8_rest}
use Rattle.asl_json_scan.proofs.front.first_byte.Goals as goal

pub returns-then-bytes-gt0-clause-utf8 : goal.returns-then-bytes-gt0-clause-utf8
returns-then-bytes-gt0-clause-utf8 c = λ lt u. rw take_rest (utf8_rest c.args.bytes.now (omega arith) lt u)
