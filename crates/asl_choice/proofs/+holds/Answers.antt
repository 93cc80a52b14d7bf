use Rattle.std.proofs.Common.{◌≡◌, ◌≤◌, List, suc, false, subst, arith}
use Rattle.std.specs.Prelude.{codes, map}
use Rattle.asl_json_data.specs.Data.{chain, items_depth, members_size}
use Rattle.asl_json_data.specs.Distinct.{Members, has_key}
use Rattle.asl_def_schema.specs.Canon.{Named}
use Rattle.asl_choice.proofs.Apart.{no_next}
use Rattle.asl_choice.proofs.Within.{item_within}
use Rattle.asl_choice.specs.Rules.{rule_object}
use Rattle.asl_choice.proofs.+holds.Goals as goal

pub truth::each_holds-holds-requires : goal.truth::each_holds-holds-requires
truth::each_holds-holds-requires t c =
    let within : suc (members_size c.rule-item.result) ≤ items_depth (chain (map rule_object c.args.rules.now.items)) = subst (λ (xs : List (List Named)). suc (members_size c.rule-item.result) ≤ items_depth (chain (map rule_object xs))) c.deref-rule-items.ensures.value (item_within rule_object c.deref-rule-items.result.now c.loop-rule.rule-index c.rule-item.result c.loop-rule-test.true c.rule-item.is) in
    (omega (arith, within), tt)

pub truth::any_holds-holds-requires : goal.truth::any_holds-holds-requires
truth::any_holds-holds-requires t c =
    let within : suc (members_size c.rule-item.result) ≤ items_depth (chain (map rule_object c.args.alternatives.now.items)) = subst (λ (xs : List (List Named)). suc (members_size c.rule-item.result) ≤ items_depth (chain (map rule_object xs))) c.deref-rule-items.ensures.value (item_within rule_object c.deref-rule-items.result.now c.loop-rule.rule-index c.rule-item.result c.loop-rule-test.true c.rule-item.is) in
    (omega (arith, within), tt)

pub rule::Rule::holds-returns-clause-no_next : goal.rule::Rule::holds-returns-clause-no_next
rule::Rule::holds-returns-clause-no_next t c = subst (λ (ms : Members). has_key (codes "Next") ms ≡ false) c.self.view_is (no_next c.self.inside.comment c.self.inside.condition)
