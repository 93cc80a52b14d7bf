use Rattle.asl_upgrade_laws.proofs.Runs.{runs_alike}
use Rattle.asl_upgrade_laws.proofs.laws.every_upgraded_setup_runs_alike.Goals as goal

pub returns : goal.returns
returns c = λ l. runs_alike c.args.setup.now l c.is_accepted.ensures.accepted
