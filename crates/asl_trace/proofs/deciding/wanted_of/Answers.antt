use Rattle.std.proofs.Common.{[], ◌∙◌, sym}
use Rattle.std.proofs.lemmas.Result.{IfOk-weaker}
use Rattle.asl_step.specs.Seen.{seen}
use Rattle.asl_trace.proofs.Happening.{wanted_is}
use Rattle.asl_trace.proofs.deciding.wanted_of.Goals as goal

pub returns-then-is_wanted-clause-stages : goal.returns-then-is_wanted-clause-stages
returns-then-is_wanted-clause-stages c t = IfOk-weaker c.stages_of.result _ _ (λ ss e. e ∙ wanted_is c.args.staged [] t c.args.state.now c.args.context.now.facts (seen c.args.visit.now) (sym (c.is_wanted.ensures t) ∙ c.if-is_wanted.true)) c.stages_of.ensures.stages
