use Rattle.std.proofs.Common.{◌≡◌, ◌++◌, drop}
use Rattle.std.specs.Prelude.{string_bytes}
use Rattle.std.specs.List.{flat_map}
use Rattle.asl_error_plans.specs.Telling.{line_if, is_endless}
use Rattle.asl_error_plans.specs.declared.outcomes.PlanOutcomes.{PlanOutcomes}
use Rattle.asl_error_plans.proofs.telling.put_endless_plans.Given as goal

-- the text so far and that of what is left are the whole
abbrev pub invariant-loop-plan : goal.invariant-loop-plan
invariant-loop-plan l = string_bytes l.out ++ flat_map (λ (p : PlanOutcomes). line_if (is_endless p) p) (drop l.plan-index l.plans) ≡ string_bytes l.fn.out ++ flat_map (λ (p : PlanOutcomes). line_if (is_endless p) p) l.plans
