use Rattle.asl_session.proofs.Plain.{unplain-stays}
use Rattle.asl_session.proofs.laws.replies_that_take_memory_change_nothing.Goals as goal

pub returns : goal.returns
returns c = unplain-stays
