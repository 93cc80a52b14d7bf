use Rattle.std.proofs.Common.{refl}
use Rattle.asl_suite.specs.Xml.{attribute}
use Rattle.asl_writing.proofs.Pieces.{right, written}
use Rattle.asl_suite.proofs.xml.put_attribute.Goals as goal

pub returns : goal.returns
unfolding attribute
returns c = written (right c.in_ok-put_plain.ensures (right c.in_ok-put_plain-2.ensures (right c.in_ok-put_plain-3.ensures (right c.in_ok-put_xml.ensures c.in_ok-put_plain-4.ensures)))) refl
