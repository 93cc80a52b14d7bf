use Rattle.asl_step_reads.proofs.Clock.{moments}
use Rattle.asl_step_reads.proofs.laws.a_step_hangs_on_the_clock_where_it_reads_it.Goals as goal

pub returns : goal.returns
returns c = record { moments = moments }
