use Rattle.asl_run_input.proofs.OneRun.{one_emulation, accepted_not_refused}
use Rattle.asl_run_input.proofs.OneFault.{one_fault}
use Rattle.asl_run_input.proofs.laws.texts_spell_one_run.Goals as goal

pub returns-clause-one : goal.returns-clause-one
returns-clause-one c = one_emulation

pub returns-clause-not_refused : goal.returns-clause-not_refused
returns-clause-not_refused c = accepted_not_refused

pub returns-clause-fault : goal.returns-clause-fault
returns-clause-fault c = one_fault
