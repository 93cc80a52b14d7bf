use Rattle.asl_exec.proofs.Growing.{steps-go-on, checkpoint-stays}
use Rattle.asl_exec.proofs.laws.steps_only_append_events.Goals as goal

pub returns-clause-appends : goal.returns-clause-appends
returns-clause-appends c s w l = let on = steps-go-on s w l in (on.more, on.is)

pub returns-clause-checkpoints : goal.returns-clause-checkpoints
returns-clause-checkpoints c = checkpoint-stays
