use Rattle.asl_text.proofs.Adding.{then_added}
use Rattle.std.proofs.Common.{[], ◌∷◌}
use Rattle.std.specs.Prelude.{string_bytes}
use Rattle.asl_text.proofs.colouring.put_whole_line.Goals as goal

pub returns : goal.returns
returns c = then_added c.put_piece.result c.args.line.now (10 ∷ []) (string_bytes c.args.out.now) (string_bytes c.put_line.new.out) (string_bytes c.put_piece.new.out) c.in_ok-put_line.ensures c.put_piece.ensures
