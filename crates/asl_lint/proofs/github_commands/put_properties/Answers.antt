use Rattle.std.proofs.Common.{refl}
use Rattle.asl_writing.proofs.Pieces.{right, written}
use Rattle.asl_lint.proofs.github_commands.put_properties.Goals as goal

pub returns : goal.returns
returns c = written (right c.in_ok-put_plain.ensures (right c.in_ok-put_property.ensures (right c.in_ok-put_plain-2.ensures (right c.in_ok-put_line.ensures (right c.in_ok-put_plain-3.ensures (right c.in_ok-put_column.ensures (right c.in_ok-put_plain-4.ensures c.in_ok-put_title.ensures))))))) refl
