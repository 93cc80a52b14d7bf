use Rattle.std.proofs.Common.{◌≡◌, drop}
use Rattle.std.specs.Prelude.{map}
use Rattle.std.specs.List.{fold}
use Rattle.asl_error_plans.specs.Grouping.{with_outcome}
use Rattle.asl_error_plans.proofs.grouping.with_outcomes.Given as goal

-- what those so far and those that are left come to is what all do
abbrev pub invariant-loop-outcome : goal.invariant-loop-outcome
invariant-loop-outcome l = fold with_outcome (map (λ t. t.now) l.texts.items) (drop l.outcome-index l.outcomes) ≡ fold with_outcome (map (λ t. t.now) l.fn.texts.items) l.outcomes
