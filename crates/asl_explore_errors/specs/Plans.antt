-- Plans that are the same.
use Rattle.std.specs.Prelude.{List, Bool, ◌&&◌, nat_eq}
use Rattle.std.specs.Cmp.Lexicographic.{pointwise}
use Rattle.std.specs.Option.{option_eq}
use Rattle.asl_json.specs.Same.{bool_eq, bytes_eq}
use Rattle.asl_error_plans.specs.declared.injected.InjectedError.{InjectedError}
use Rattle.asl_error_plans.specs.declared.outcomes.PlanOutcomes.{PlanOutcomes}

abbrev pub is_same_error : InjectedError → InjectedError → Bool
is_same_error a b =
    bytes_eq a.state b.state
    && (nat_eq a.number b.number
    && (bytes_eq a.error b.error && (option_eq bytes_eq a.cause b.cause && bool_eq a.for_good b.for_good)))

-- the same errors in the same order
abbrev pub is_same_plan : List InjectedError → List InjectedError → Bool
is_same_plan = pointwise is_same_error

abbrev pub has_plan : List InjectedError → PlanOutcomes → Bool
has_plan plan p = is_same_plan p.plan.items plan
