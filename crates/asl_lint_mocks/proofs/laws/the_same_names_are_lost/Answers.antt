use Rattle.asl_lint_mocks.proofs.Losing.{same_lost}
use Rattle.asl_lint_mocks.proofs.laws.the_same_names_are_lost.Goals as goal

pub returns : goal.returns
returns c = same_lost
