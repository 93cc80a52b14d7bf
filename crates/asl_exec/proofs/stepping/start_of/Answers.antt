use Rattle.std.proofs.Common.{ap, ◌∙◌}
use Rattle.std.proofs.lemmas.Result.{IfOk-weaker}
use Rattle.std.specs.Prelude.{[], unwrap_or}
use Rattle.asl_def_shared.specs.Texts.{text_in}
use Rattle.asl_exec.proofs.stepping.start_of.Goals as goal

pub returns : goal.returns
returns c = IfOk-weaker c.new.result _ _ (λ n e. e ∙ ap (λ v. unwrap_or (text_in v) []) c.start.ensures) c.new.ensures
