use Rattle.std.proofs.Common.{refl}
use Rattle.asl_suite.specs.Junit.{case_element}
use Rattle.asl_writing.proofs.Pieces.{right, written}
use Rattle.asl_suite.proofs.junit_xml.put_case.Goals as goal

pub returns : goal.returns
unfolding case_element
returns c = written (right c.in_ok-put_case_head.ensures c.in_ok-put_case_tail.ensures) refl
