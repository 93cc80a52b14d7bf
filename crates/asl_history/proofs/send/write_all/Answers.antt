use Rattle.std.proofs.Common.{◌∙◌}
use Rattle.asl_history.proofs.Pieces.{taken_more, rest_length}
use Rattle.asl_history.proofs.send.write_all.Goals as goal

pub loop-sent-preserved : goal.loop-sent-preserved
loop-sent-preserved g c = (
  taken_more _ _ _ c.args.bytes.now c.loop-sent.sent c.in-Ok.count c.loop-sent.invariant.0 c.in-Ok.ensures.taken,
  rest_length c.args.bytes.now c.loop-sent.sent c.in-Ok.count c.loop-sent.invariant.1 c.in-Ok.ensures.bound,
  c.in-Ok.ensures.ok ∙ c.loop-sent.invariant.2,
)
