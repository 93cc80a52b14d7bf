use Rattle.asl_lint_choices.proofs.Contradicting.{never_hold}
use Rattle.asl_lint_choices.proofs.laws.contradictory_ands_never_hold.Goals as goal

pub returns : goal.returns
returns c = never_hold
