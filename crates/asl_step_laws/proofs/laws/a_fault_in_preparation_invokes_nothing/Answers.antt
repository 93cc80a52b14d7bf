use Rattle.asl_step_laws.proofs.Preparation.{preparation}
use Rattle.asl_step_laws.proofs.laws.a_fault_in_preparation_invokes_nothing.Goals as goal

pub returns : goal.returns
returns c = preparation
