use Rattle.std.proofs.Common.{refl}
use Rattle.asl_explain.specs.Codes.{verdict_codes}
use Rattle.asl_explain.proofs.verdicts.all.Goals as goal

pub returns : goal.returns
unfolding verdict_codes
returns c = refl
