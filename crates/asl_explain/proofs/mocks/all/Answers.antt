use Rattle.std.proofs.Common.{refl}
use Rattle.asl_explain.specs.Codes.{mock_codes}
use Rattle.asl_explain.proofs.mocks.all.Goals as goal

pub returns : goal.returns
unfolding mock_codes
returns c = refl
