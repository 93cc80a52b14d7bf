use Rattle.asl_step_io.specs.Paths.{no_place}
use Rattle.asl_step_io.proofs.Giving.{given_some}
use Rattle.asl_step_io.proofs.paths.put_at.Goals as goal

pub returns-in-Ok : goal.returns-in-Ok
returns-in-Ok c = given_some no_place _ c.in-Ok.value c.in-Ok.ensures.ok
