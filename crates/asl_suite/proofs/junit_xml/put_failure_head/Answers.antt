use Rattle.std.proofs.Common.{refl}
use Rattle.asl_suite.specs.Junit.{failure_head}
use Rattle.asl_writing.proofs.Pieces.{right, written}
use Rattle.asl_suite.proofs.junit_xml.put_failure_head.Goals as goal

pub returns : goal.returns
unfolding failure_head
returns c = written (right c.in_ok-put_plain.ensures (right c.in_ok-put_type.ensures (right c.in_ok-put_message.ensures c.in_ok-put_plain-2.ensures))) refl
