use Rattle.asl_session.proofs.Starting.{starts-later}
use Rattle.asl_session.proofs.laws.the_start_may_come_later.Goals as goal

pub returns : goal.returns
returns c = starts-later
