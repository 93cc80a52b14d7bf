use Rattle.asl_lint_warnings.proofs.Failing.{fails}
use Rattle.asl_lint_warnings.proofs.laws.told_calls_fail.Goals as goal

pub returns : goal.returns
returns c = fails
