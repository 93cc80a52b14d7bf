use Rattle.asl_text.proofs.Adding.{then_none}
use Rattle.std.specs.Prelude.{string_bytes}
use Rattle.asl_text.proofs.colouring.put_status.Goals as goal

pub returns : goal.returns
returns c = then_none c.put_piece-2.result c.args.line.now (string_bytes c.args.out.now) (string_bytes c.put_piece.new.out) (string_bytes c.put_piece-2.new.out) c.in_ok-put_piece.ensures c.put_piece-2.ensures
