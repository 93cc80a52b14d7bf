use Rattle.asl_exec_moment_laws.proofs.Runs.{any-moments, stay-aside, places-stay, bare-aside}
use Rattle.asl_exec_moment_laws.proofs.laws.moments_may_be_any.Goals as goal

pub returns-clause-any : goal.returns-clause-any
returns-clause-any c = any-moments

pub returns-clause-aside : goal.returns-clause-aside
returns-clause-aside c = stay-aside

pub returns-clause-places : goal.returns-clause-places
returns-clause-places c = places-stay

pub returns-clause-bare : goal.returns-clause-bare
returns-clause-bare c = bare-aside
