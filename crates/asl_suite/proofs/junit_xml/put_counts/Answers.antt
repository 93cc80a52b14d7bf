use Rattle.std.proofs.Common.{refl}
use Rattle.asl_suite.specs.Junit.{counts}
use Rattle.asl_writing.proofs.Pieces.{right, written}
use Rattle.asl_suite.proofs.junit_xml.put_counts.Goals as goal

pub returns : goal.returns
unfolding counts
returns c = written (right c.in_ok-put_tests.ensures (right c.in_ok-put_failures.ensures c.in_ok-put_count.ensures)) refl
