use Rattle.std.proofs.Common.{refl}
use Rattle.asl_suite.specs.Junit.{failure}
use Rattle.asl_writing.proofs.Pieces.{right, written}
use Rattle.asl_suite.proofs.junit_xml.put_failure.Goals as goal

pub returns : goal.returns
unfolding failure
returns c = written (right c.in_ok-put_failure_head.ensures (right c.in_ok-put_alone.ensures c.in_ok-put_plain.ensures)) refl
