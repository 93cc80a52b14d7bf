use Rattle.asl_upgrade_laws.proofs.Runs.{steps_alike, runs_alike, drives_alike}
use Rattle.asl_upgrade_laws.proofs.laws.an_upgraded_machine_runs_alike.Goals as goal

pub returns-clause-steps : goal.returns-clause-steps
returns-clause-steps c = steps_alike

pub returns-clause-runs : goal.returns-clause-runs
returns-clause-runs c = runs_alike

pub returns-clause-drives : goal.returns-clause-drives
returns-clause-drives c = drives_alike
