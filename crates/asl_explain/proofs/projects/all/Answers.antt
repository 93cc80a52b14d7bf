use Rattle.std.proofs.Common.{refl}
use Rattle.asl_explain.specs.Codes.{project_codes}
use Rattle.asl_explain.proofs.projects.all.Goals as goal

pub returns : goal.returns
unfolding project_codes
returns c = refl
