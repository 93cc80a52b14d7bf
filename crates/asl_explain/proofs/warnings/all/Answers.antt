use Rattle.std.proofs.Common.{refl}
use Rattle.asl_explain.specs.Codes.{warning_codes}
use Rattle.asl_explain.proofs.warnings.all.Goals as goal

pub returns : goal.returns
unfolding warning_codes
returns c = refl
