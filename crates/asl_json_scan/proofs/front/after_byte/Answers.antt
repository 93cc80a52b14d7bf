use Rattle.std.proofs.Common.{arith}
use Rattle.std.proofs.lemmas.List.{take_rest}
use Rattle.asl_json_scan.proofs.Fronts.{utf8_rest}
use Rattle.asl_json_scan.proofs.front.after_byte.Goals as goal

pub returns-then-bytes-byte-clause-utf8 : goal.returns-then-bytes-byte-clause-utf8
returns-then-bytes-byte-clause-utf8 c = λ u. rw take_rest (utf8_rest c.args.bytes.now (omega arith) (omega arith) u)
