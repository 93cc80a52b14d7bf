use Rattle.std.proofs.Common.{◌≡◌, ◌++◌, drop, ℕ, List}
use Rattle.std.specs.HashMap.{get_by_text}
use Rattle.asl_lint_choices.specs.Repeats.{repeated_from}
use Rattle.asl_lint_choices.specs.View.{all_asked}
use Rattle.asl_lint_choices.specs.private.Texts.{first_with_text, or_later}
use Rattle.asl_lint_choices.proofs.repeats.repeated_rules.Given as goal

-- what was told and what is left to tell are all, and each text has the number of the first condition with it
abbrev pub invariant-loop-rule : goal.invariant-loop-rule
invariant-loop-rule l =
    (l.found.items ++ repeated_from (all_asked l.condition-items) l.rule (all_asked (drop l.rule l.condition-items)) ≡ repeated_from (all_asked l.condition-items) 0 (all_asked l.condition-items))
    × ((t : List ℕ) → or_later (get_by_text l.numbers t) (first_with_text t l.rule (all_asked (drop l.rule l.condition-items))) ≡ first_with_text t 0 (all_asked l.condition-items))
