use Rattle.std.proofs.Common.{◌≡◌, ◌++◌, drop}
use Rattle.asl_json.specs.View.{items_of}
use Rattle.asl_lint_choices.specs.Conditions.{all_conditions}
use Rattle.asl_lint_choices.specs.View.{all_asked}
use Rattle.asl_lint_choices.proofs.repeats.conditions.Given as goal

abbrev pub invariant-loop-rule : goal.invariant-loop-rule
invariant-loop-rule l = all_asked l.conditions.items ++ all_conditions (items_of (drop l.rule-index l.rules)) ≡ all_conditions (items_of l.rules)
