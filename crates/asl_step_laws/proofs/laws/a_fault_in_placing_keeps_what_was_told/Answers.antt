use Rattle.asl_step_laws.proofs.Placing.{placing}
use Rattle.asl_step_laws.proofs.laws.a_fault_in_placing_keeps_what_was_told.Goals as goal

pub returns : goal.returns
returns c = placing
