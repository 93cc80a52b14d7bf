use Rattle.std.proofs.Common.{◌≡◌, drop}
use Rattle.asl_lint_choices.specs.Contradictions.{contradiction_from}
use Rattle.asl_lint_choices.specs.View.{all_asked}
use Rattle.asl_lint_choices.proofs.contradictions.first_contradiction.Given as goal

abbrev pub invariant-loop-first : goal.invariant-loop-first
invariant-loop-first l = contradiction_from 0 (all_asked l.conditions.items) ≡ contradiction_from l.first (all_asked (drop l.first l.conditions.items))
