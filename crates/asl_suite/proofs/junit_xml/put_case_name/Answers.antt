use Rattle.std.proofs.Common.{refl}
use Rattle.asl_suite.specs.Junit.{case_name}
use Rattle.asl_writing.proofs.Pieces.{right, written}
use Rattle.asl_suite.proofs.junit_xml.put_case_name.Goals as goal

pub returns : goal.returns
unfolding case_name
returns c = written (right c.in_ok-put_number.ensures (right c.in_ok-put_behind_space.ensures c.in_ok-put_own_name.ensures)) refl
