use Rattle.asl_lint_choices.proofs.Repeating.{are_alike}
use Rattle.asl_lint_choices.proofs.laws.repeated_rules_are_alike.Goals as goal

pub returns : goal.returns
returns c = are_alike
