use Rattle.std.proofs.Common.{refl}
use Rattle.asl_explain.specs.Codes.{error_codes}
use Rattle.asl_explain.proofs.errors.all.Goals as goal

pub returns : goal.returns
unfolding error_codes
returns c = refl
