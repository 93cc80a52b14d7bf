use Rattle.std.proofs.Common.{refl}
use Rattle.asl_suite.specs.Junit.{case_head}
use Rattle.asl_writing.proofs.Pieces.{right, written}
use Rattle.asl_suite.proofs.junit_xml.put_case_head.Goals as goal

pub returns : goal.returns
unfolding case_head
returns c = written (right c.in_ok-put_plain.ensures (right c.in_ok-put_class.ensures (right c.in_ok-put_plain-2.ensures c.in_ok-put_case_name.ensures))) refl
