use Rattle.std.proofs.Common.{[], ◌∙◌}
use Rattle.std.proofs.lemmas.Result.{IfOk-weaker}
use Rattle.asl_step.specs.Seen.{seen}
use Rattle.asl_kinds.specs.private.Laws.{any_table}
use Rattle.asl_exec.proofs.stepping.effect_of.Goals as goal

pub returns-in-Some-clause-effect : goal.returns-in-Some-clause-effect
returns-in-Some-clause-effect c t = rw c.in-Some.is (IfOk-weaker c.visit.result _ _ (λ e h. h ∙ any_table [] t c.in-Some.state.now c.args.context.now.facts (seen c.args.visit.now)) c.visit.ensures.effect)
