use Rattle.std.proofs.Common.{refl}
use Rattle.asl_explain.specs.Codes.{closing_codes}
use Rattle.asl_explain.proofs.closings.all.Goals as goal

pub returns : goal.returns
unfolding closing_codes
returns c = refl
