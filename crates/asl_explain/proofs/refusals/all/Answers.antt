use Rattle.std.proofs.Common.{refl}
use Rattle.asl_explain.specs.Codes.{refusal_codes}
use Rattle.asl_explain.proofs.refusals.all.Goals as goal

pub returns : goal.returns
unfolding refusal_codes
returns c = refl
