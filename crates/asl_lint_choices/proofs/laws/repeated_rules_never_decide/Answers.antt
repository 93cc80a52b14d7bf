use Rattle.asl_lint_choices.proofs.Repeating.{never_decide}
use Rattle.asl_lint_choices.proofs.laws.repeated_rules_never_decide.Goals as goal

pub returns : goal.returns
returns c = never_decide
