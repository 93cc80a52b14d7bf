use Rattle.std.proofs.Common.{refl}
use Rattle.asl_json_data.specs.Compact.{escaped_byte}
use Rattle.asl_writing.proofs.Pieces.{right, written}
use Rattle.asl_lint.proofs.gitlab_issues.put_place.Goals as goal

pub returns : goal.returns
unfolding escaped_byte
returns c = written (right c.in_ok-put_char.ensures (right c.in_ok-put_text.ensures (right c.in_ok-put_char-2.ensures (right c.in_ok-put_key.ensures (right c.in_ok-put_lines.ensures c.in_ok-put_char-3.ensures))))) refl
