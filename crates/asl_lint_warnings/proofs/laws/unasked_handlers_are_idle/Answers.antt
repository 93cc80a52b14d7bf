use Rattle.asl_lint_warnings.proofs.Idle.{idle}
use Rattle.asl_lint_warnings.proofs.laws.unasked_handlers_are_idle.Goals as goal

pub returns : goal.returns
returns c = idle
