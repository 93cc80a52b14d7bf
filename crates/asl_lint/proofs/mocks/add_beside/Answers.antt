use Rattle.std.proofs.lemmas.Result.{on_ok_weaker}
use Rattle.asl_lint.proofs.mocks.add_beside.Goals as goal

pub returns : goal.returns
returns c = on_ok_weaker c.add_misnamed.result (λ h. h c.args.states.now (record { states = c.in_ok-names.ensures; tasks = c.in_ok-tasks.ensures })) c.add_misnamed.ensures
