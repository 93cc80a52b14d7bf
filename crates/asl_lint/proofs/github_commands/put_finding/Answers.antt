use Rattle.std.proofs.Common.{refl}
use Rattle.asl_lint.specs.Github.{command_line}
use Rattle.asl_writing.proofs.Pieces.{right, written}
use Rattle.asl_lint.proofs.github_commands.put_finding.Goals as goal

pub returns : goal.returns
unfolding command_line
returns c = written (right c.in_ok-put_plain.ensures (right c.in_ok-put_level.ensures (right c.in_ok-put_plain-2.ensures (right c.in_ok-put_properties.ensures (right c.in_ok-put_plain-3.ensures (right c.in_ok-put_message.ensures c.in_ok-put_char.ensures)))))) refl
