use Rattle.asl_text.proofs.Adding.{three_added}
use Rattle.std.specs.Prelude.{string_bytes}
use Rattle.asl_text.proofs.colouring.put_three.Goals as goal

pub returns : goal.returns
returns c = three_added c.put_piece-4.result c.args.lead.now c.args.state.now c.args.outcome.now (string_bytes c.args.out.now) (string_bytes c.put_piece.new.out) (string_bytes c.put_piece-2.new.out) (string_bytes c.put_piece-3.new.out) (string_bytes c.put_piece-4.new.out) c.in_ok-put_piece.ensures c.in_ok-put_piece-2.ensures c.in_ok-put_piece-3.ensures c.put_piece-4.ensures
