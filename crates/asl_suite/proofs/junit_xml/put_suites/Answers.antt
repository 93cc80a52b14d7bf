use Rattle.std.proofs.Common.{refl}
use Rattle.asl_writing.proofs.Pieces.{right, written}
use Rattle.asl_suite.proofs.junit_xml.put_suites.Goals as goal

pub returns : goal.returns
returns c = written (right c.in_ok-put_head.ensures (right c.in_ok-put_plain.ensures (right c.in_ok-put_plain-2.ensures c.in_ok-put_tail.ensures))) refl
