use Rattle.asl_lint_faults.proofs.Leasts.{first_is_least}
use Rattle.asl_lint_faults.proofs.laws.the_first_fault_is_the_least.Goals as goal

pub returns : goal.returns
returns c = λ cs fs first h k. first_is_least cs fs first h k
