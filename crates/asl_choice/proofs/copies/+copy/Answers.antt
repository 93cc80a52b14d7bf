use Rattle.std.proofs.Common.{◌≤◌, List, suc, subst, arith}
use Rattle.std.specs.Prelude.{map}
use Rattle.asl_json_data.specs.Data.{chain, items_depth, members_size}
use Rattle.asl_def_schema.specs.Canon.{Named}
use Rattle.asl_choice.specs.Rules.{rule_object}
use Rattle.asl_choice.proofs.Within.{item_within}
use Rattle.asl_choice.proofs.copies.+copy.Goals as goal

pub copies_of-copy_of-requires : goal.copies_of-copy_of-requires
copies_of-copy_of-requires t c =
    let within : suc (members_size c.rule-item.result) ≤ items_depth (chain (map rule_object c.args.rules.now.items)) = subst (λ (xs : List (List Named)). suc (members_size c.rule-item.result) ≤ items_depth (chain (map rule_object xs))) c.deref-rule-items.ensures.value (item_within rule_object c.deref-rule-items.result.now c.loop-rule.rule-index c.rule-item.result c.loop-rule-test.true c.rule-item.is) in
    (omega (arith, within), tt)
