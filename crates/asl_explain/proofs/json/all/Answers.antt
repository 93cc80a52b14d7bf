use Rattle.std.proofs.Common.{refl}
use Rattle.asl_explain.specs.Codes.{json_codes}
use Rattle.asl_explain.proofs.json.all.Goals as goal

pub returns : goal.returns
unfolding json_codes
returns c = refl
