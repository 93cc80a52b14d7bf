use Rattle.std.proofs.Common.{ap, inr}
use Rattle.std.specs.Prelude.{is_none}
use Rattle.std.proofs.lemmas.Result.{IfOk-weaker}
use Rattle.asl_mock.specs.Answers.{Case}
use Rattle.asl_explore_errors.proofs.filling.completed.Goals as goal

pub returns-in-None : goal.returns-in-None
returns-in-None c =
    let none = c.in_ok-mocks.ensures.none (ap is_none c.in-None.is) in
    IfOk-weaker c.try_clone.result _ _ (λ (x : Case) e. inr (none, e)) c.try_clone.ensures
