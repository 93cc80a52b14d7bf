use Rattle.asl_run_formats.proofs.Taking.{leads}
use Rattle.asl_run_formats.proofs.laws.taken_steps_lead_to_the_same_world.Goals as goal

pub returns : goal.returns
returns c = leads
