use Rattle.std.proofs.Common.{◌≡◌, ◌++◌, drop}
use Rattle.asl_json.specs.View.{items_of}
use Rattle.asl_lint_warnings.specs.Choices.{all_and_warnings, rule_warnings}
use Rattle.asl_lint_warnings.specs.private.Trails.{steps_of}
use Rattle.asl_lint_warnings.proofs.choosing.tell_rules.Given as goal

-- what was told so far and what is left are all
abbrev pub invariant-loop-number : goal.invariant-loop-number
invariant-loop-number l = l.told.items ++ all_and_warnings (steps_of l.trail) l.number (items_of (drop l.number l.rules)) ≡ l.fn.told.items ++ rule_warnings (steps_of l.trail) (items_of l.rules)
