use Rattle.asl_step_reads.proofs.Spelling.{context_paths, input_paths, calls}
use Rattle.asl_step_reads.proofs.Inside.{states_read_no_more}
use Rattle.asl_step_reads.proofs.Mentioning.{unmentioned}
use Rattle.asl_step_reads.proofs.laws.a_text_reads_what_it_spells.Goals as goal

pub returns-clause-context : goal.returns-clause-context
returns-clause-context c = context_paths

pub returns-clause-input : goal.returns-clause-input
returns-clause-input c = input_paths

pub returns-clause-calls : goal.returns-clause-calls
returns-clause-calls c = calls

pub returns-clause-states : goal.returns-clause-states
returns-clause-states c = states_read_no_more

pub returns-clause-bytes : goal.returns-clause-bytes
returns-clause-bytes c = unmentioned
