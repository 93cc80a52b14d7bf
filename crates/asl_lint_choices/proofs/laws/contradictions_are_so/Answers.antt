use Rattle.asl_lint_choices.proofs.Contradicting.{so}
use Rattle.asl_lint_choices.proofs.laws.contradictions_are_so.Goals as goal

pub returns : goal.returns
returns c = so
