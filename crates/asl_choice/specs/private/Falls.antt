-- What a rule holds is smaller than itself.
use Rattle.std.specs.Prelude.{◌≤◌, ◌+◌, ℕ, max, List, [], ◌∷◌, Option, Some, None, map}
use Rattle.std.proofs.Common.{arith}
use denote.Param.Weighed.{most}
use Rattle.asl_json_data.specs.Data.{chain, items_depth, members_size}
use Rattle.asl_def_schema.specs.Canon.{Named}
use Rattle.asl_choice.specs.Rules.{rule_object, condition_named, rule_named}
use Rattle.asl_choice.specs.declared.rule.Condition.{Condition}
use Rattle.asl_choice.specs.declared.rule.Condition.TheVariants.{And, Or, Not, Test}
use Rattle.asl_choice.specs.declared.rule.Rule.TheDeep.{deep-Condition}

deep_rules : (rs : List (List Named))
    → most (λ r. members_size r + 1) rs ≤ items_depth (chain (map rule_object rs))
deep_rules [] = omega arith
deep_rules (r ∷ rs) = omega (arith, deep_rules rs)

deep_condition : (c : Condition) → deep-Condition c ≤ members_size (condition_named c)
deep_condition (And rs) = omega (arith, deep_rules rs.items)
deep_condition (Or rs) = omega (arith, deep_rules rs.items)
deep_condition (Not r) = omega arith
deep_condition (Test t) = omega arith

pub rule_falls : (comment : Option (List ℕ)) (c : Condition)
    → max (deep-Condition c) 0 ≤ members_size (rule_named comment c)
rule_falls None c = omega (arith, deep_condition c)
rule_falls (Some t) c = omega (arith, deep_condition c)
