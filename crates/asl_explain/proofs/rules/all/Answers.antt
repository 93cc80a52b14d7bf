use Rattle.std.proofs.Common.{refl}
use Rattle.asl_explain.specs.Codes.{rule_codes}
use Rattle.asl_explain.proofs.rules.all.Goals as goal

pub returns : goal.returns
unfolding rule_codes
returns c = refl
