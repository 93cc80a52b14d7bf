use Rattle.asl_lint_choices.proofs.Listed.{none_and_some}
use Rattle.asl_lint_choices.proofs.condition.+are_same.Goals as goal

pub returns-in-len1-up-others : goal.returns-in-len1-up-others
returns-in-len1-up-others t c =
    none_and_some c.args.some.now c.args.others.now c.in-empty.len_below c.in-len1-up-others.len_at_least
