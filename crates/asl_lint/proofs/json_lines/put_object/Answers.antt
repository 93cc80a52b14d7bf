use Rattle.std.proofs.Common.{refl}
use Rattle.asl_writing.proofs.Pieces.{right, written}
use Rattle.asl_lint.proofs.json_lines.put_object.Goals as goal

pub returns : goal.returns
returns c = written (right c.in_ok-put_char.ensures (right c.in_ok-put_text.ensures (right c.in_ok-put_char-2.ensures (right c.in_ok-put_line.ensures (right c.in_ok-put_char-3.ensures (right c.in_ok-put_column.ensures (right c.in_ok-put_char-4.ensures (right c.in_ok-put_offset.ensures (right c.in_ok-put_char-5.ensures (right c.in_ok-put_offset-2.ensures (right c.in_ok-put_char-6.ensures (right c.in_ok-put_level.ensures (right c.in_ok-put_char-7.ensures (right c.in_ok-put_name.ensures (right c.in_ok-put_char-8.ensures (right c.in_ok-put_words.ensures c.in_ok-put_char-9.ensures)))))))))))))))) refl
