use Rattle.std.proofs.Common.{◌≡◌, drop}
use Rattle.asl_lint_choices.specs.Contradictions.{first_against}
use Rattle.asl_lint_choices.specs.View.{all_asked, asked}
use Rattle.asl_lint_choices.proofs.contradictions.first_against.Given as goal

abbrev pub invariant-loop-number : goal.invariant-loop-number
invariant-loop-number l = first_against (asked l.condition) l.from (all_asked (drop l.from l.conditions)) ≡ first_against (asked l.condition) l.number (all_asked (drop l.number l.conditions))
