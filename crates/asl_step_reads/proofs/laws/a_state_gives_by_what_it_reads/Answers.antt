use Rattle.asl_step_reads.proofs.Giving.{state_agrees}
use Rattle.asl_step_reads.proofs.laws.a_state_gives_by_what_it_reads.Goals as goal

pub returns : goal.returns
returns c = record { gives = state_agrees }
