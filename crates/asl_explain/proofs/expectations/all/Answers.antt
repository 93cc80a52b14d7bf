use Rattle.std.proofs.Common.{refl}
use Rattle.asl_explain.specs.Codes.{expectation_codes}
use Rattle.asl_explain.proofs.expectations.all.Goals as goal

pub returns : goal.returns
unfolding expectation_codes
returns c = refl
