use Rattle.std.proofs.lemmas.Result.{IfOk-weaker}
use Rattle.asl_explore.proofs.counting.count_turn.Goals as goal

pub returns-clause-met : goal.returns-clause-met
returns-clause-met c o = IfOk-weaker c.count_step.result _ _ (λ b h comes before. h (comes c.if-beyond.false) before) (c.count_step.ensures.met o)
