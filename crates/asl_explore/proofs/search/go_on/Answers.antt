use Rattle.std.proofs.Common.{inl}
use Rattle.std.proofs.lemmas.Result.{IfOk-weaker}
use Rattle.asl_explore.proofs.search.go_on.Goals as goal

pub returns-clause-taken : goal.returns-clause-taken
returns-clause-taken c = IfOk-weaker c.expand.result _ _ (λ b h t d. inl (h t d)) c.expand.ensures.expanded
