use Rattle.asl_explore.proofs.Sighting.{tried-decided}
use Rattle.asl_explore.proofs.laws.remarks_speak_of_tried_steps.Goals as goal

pub returns : goal.returns
returns c = tried-decided
