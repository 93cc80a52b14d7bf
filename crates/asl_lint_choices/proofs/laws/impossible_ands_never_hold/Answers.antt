use Rattle.asl_lint_choices.proofs.Deep.{each_never_holds}
use Rattle.asl_lint_choices.proofs.laws.impossible_ands_never_hold.Goals as goal

pub returns : goal.returns
returns c = each_never_holds
