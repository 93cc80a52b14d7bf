use Rattle.std.proofs.Common.{◌≡◌, drop}
use Rattle.std.specs.Prelude.{map}
use Rattle.std.specs.List.{fold}
use Rattle.asl_error_plans.specs.Grouping.{with_outcomes, all_outcomes}
use Rattle.asl_error_plans.proofs.grouping.all_outcomes.Given as goal

-- what those so far and those that are left come to is what all do
abbrev pub invariant-loop-plan : goal.invariant-loop-plan
invariant-loop-plan l = fold with_outcomes (map (λ t. t.now) l.texts.items) (drop l.plan-index l.plans) ≡ all_outcomes l.plans
