use Rattle.asl_step_laws.proofs.Searching.{used_up, later, only}
use Rattle.asl_step_laws.proofs.laws.a_used_up_retrier_ends_the_search.Goals as goal

pub returns-clause-used_up : goal.returns-clause-used_up
returns-clause-used_up c = used_up

pub returns-clause-later : goal.returns-clause-later
returns-clause-later c = later

pub returns-clause-only : goal.returns-clause-only
returns-clause-only c = only
