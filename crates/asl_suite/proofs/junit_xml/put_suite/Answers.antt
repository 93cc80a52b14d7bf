use Rattle.std.proofs.Common.{refl}
use Rattle.asl_writing.proofs.Pieces.{right, written}
use Rattle.asl_suite.proofs.junit_xml.put_suite.Goals as goal

pub returns : goal.returns
returns c = written (right c.in_ok-put_suite_head.ensures (right c.in_ok-put_cases.ensures c.in_ok-put_plain.ensures)) refl
