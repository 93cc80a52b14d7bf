use Rattle.asl_step_reads.proofs.Tokens.{counts, others}
use Rattle.asl_step_reads.proofs.laws.a_step_counts_where_it_reads_the_count.Goals as goal

pub returns-clause-counts : goal.returns-clause-counts
returns-clause-counts c = counts

pub returns-clause-others : goal.returns-clause-others
returns-clause-others c = others
