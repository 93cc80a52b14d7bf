use Rattle.asl_exec.proofs.OneRun.{one_run, not_refused}
use Rattle.asl_exec.proofs.laws.texts_have_one_run.Goals as goal

pub returns-clause-one : goal.returns-clause-one
returns-clause-one c = one_run

pub returns-clause-not_refused : goal.returns-clause-not_refused
returns-clause-not_refused c = not_refused
