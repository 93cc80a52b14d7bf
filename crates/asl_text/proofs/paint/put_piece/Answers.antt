use Rattle.asl_text.proofs.Adding.{piece_added}
use Rattle.std.specs.Prelude.{string_bytes}
use Rattle.asl_text.proofs.paint.put_piece.Goals as goal

pub returns : goal.returns
returns c = piece_added c.push_str-2.result c.args.paint c.args.text.now (string_bytes c.args.out.now) (string_bytes c.push_str.new.self) (string_bytes c.push_str-2.new.self) (rw c.control.ensures at c.in_ok-push_str.ensures.bytes) c.push_str-2.ensures.bytes
