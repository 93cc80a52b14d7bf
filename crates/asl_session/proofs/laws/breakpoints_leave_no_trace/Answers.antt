use Rattle.asl_session.proofs.Unbroken.{no-trace, ends-unbroken}
use Rattle.asl_session.proofs.laws.breakpoints_leave_no_trace.Goals as goal

pub returns-clause-none : goal.returns-clause-none
returns-clause-none c = no-trace

pub returns-clause-unbroken : goal.returns-clause-unbroken
returns-clause-unbroken c = ends-unbroken
