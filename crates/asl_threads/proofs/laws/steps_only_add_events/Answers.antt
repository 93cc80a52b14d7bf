use Rattle.asl_exec.proofs.Growing.{steps-go-on}
use Rattle.asl_threads.proofs.laws.steps_only_add_events.Goals as goal

pub returns : goal.returns
returns c = λ s w steps. let h = steps-go-on s w steps in (h.more, h.is)
