use Rattle.std.proofs.Common.{◌∙◌}
use Rattle.std.proofs.lemmas.Result.{IfOk-weaker}
use Rattle.asl_def.proofs.machine.build.Goals as goal

pub returns : goal.returns
returns c = IfOk-weaker c.of_parts.result _ _ (λ m e. e ∙ c.in_ok-parts.ensures.shown) c.of_parts.ensures
