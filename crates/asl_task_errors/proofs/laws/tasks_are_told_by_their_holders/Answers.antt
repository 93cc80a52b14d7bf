use Rattle.asl_task_errors.proofs.Holding.{by_holders}
use Rattle.asl_task_errors.proofs.laws.tasks_are_told_by_their_holders.Goals as goal

pub returns : goal.returns
returns c = by_holders
