use Rattle.asl_trace_data.proofs.Ends.{ends_there}
use Rattle.asl_trace_data.proofs.laws.stages_end_with_what_states_give.Goals as goal

pub returns : goal.returns
returns c = ends_there
