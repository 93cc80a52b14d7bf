use Rattle.std.proofs.Common.{refl}
use Rattle.asl_lint.specs.JsonLines.{json_line}
use Rattle.asl_writing.proofs.Pieces.{right, written}
use Rattle.asl_lint.proofs.json_lines.put_finding.Goals as goal

pub returns : goal.returns
unfolding json_line
returns c = written (right c.in_ok-put_object.ensures c.in_ok-put_char.ensures) refl
