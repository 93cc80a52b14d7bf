use Rattle.std.proofs.Common.{refl}
use Rattle.asl_explain.specs.Codes.{definition_codes}
use Rattle.asl_explain.proofs.definitions.all.Goals as goal

pub returns : goal.returns
unfolding definition_codes
returns c = refl
