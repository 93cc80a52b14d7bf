use Rattle.std.proofs.Common.{◌≡◌, drop}
use Rattle.asl_lint_choices.specs.Repeats.{first_same}
use Rattle.asl_lint_choices.specs.View.{all_asked, asked}
use Rattle.asl_lint_choices.proofs.repeats.first_same.Given as goal

abbrev pub invariant-loop-number : goal.invariant-loop-number
invariant-loop-number l = first_same (asked l.condition) 0 (all_asked l.conditions) ≡ first_same (asked l.condition) l.number (all_asked (drop l.number l.conditions))
