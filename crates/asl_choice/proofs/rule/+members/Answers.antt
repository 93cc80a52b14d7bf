use Rattle.std.proofs.Common.{◌≡◌, ◌≤◌, List, suc, false, refl, sym, subst, ap, ◌∙◌, arith}
use Rattle.std.specs.Prelude.{codes, map}
use Rattle.asl_json_data.specs.Data.{chain, items_depth, members_size}
use Rattle.asl_json.specs.View.{data_of}
use Rattle.asl_json_data.specs.Distinct.{Members, has_key}
use Rattle.asl_def_schema.specs.Canon.{Named}
use Rattle.asl_choice.proofs.Within.{item_within}
use Rattle.asl_choice.specs.Rules.{rule_object, rule_list, condition_named, rule_named}
use Rattle.asl_choice.proofs.Apart.{no_next, shown_ok, connective_shown, named_apart}
use Rattle.asl_choice.proofs.rule.+members.Goals as goal

pub condition_members-rules_value-requires : goal.condition_members-rules_value-requires
condition_members-rules_value-requires t c = let e = ap (λ x. members_size (condition_named x)) c.in-And.is in (omega (arith, e), tt)

pub condition_members-rules_value-requires-in-Or : goal.condition_members-rules_value-requires-in-Or
condition_members-rules_value-requires-in-Or t c = let e = ap (λ x. members_size (condition_named x)) c.in-Or.is in (omega (arith, e), tt)

pub rules_value-rule_value-requires : goal.rules_value-rule_value-requires
rules_value-rule_value-requires t c =
    let within : suc (members_size c.rule-item.result) ≤ items_depth (chain (map rule_object c.args.rules.now.items)) = subst (λ (xs : List (List Named)). suc (members_size c.rule-item.result) ≤ items_depth (chain (map rule_object xs))) c.deref-rule-items.ensures.value (item_within rule_object c.deref-rule-items.result.now c.loop-rule.rule-index c.rule-item.result c.loop-rule-test.true c.rule-item.is) in
    (omega (arith, within), tt)

pub Rule::members-returns-clause-no_next : goal.Rule::members-returns-clause-no_next
Rule::members-returns-clause-no_next t c = subst (λ (ms : Members). has_key (codes "Next") ms ≡ false) c.self.view_is (no_next c.self.inside.comment c.self.inside.condition)

pub condition_members-returns-in_ok-of-in-And : goal.condition_members-returns-in_ok-of-in-And
condition_members-returns-in_ok-of-in-And t c = connective_shown c.commented.result c.args.comment.now c.in_ok-of-in-And.field-0 (codes "And") (data_of c.in_ok-value-in-And.value) (rule_list c.in-And.rules.items) c.args.condition.now c.in_ok-of-in-And.ensures (c.in_ok-value-in-And.ensures) (ap condition_named c.in-And.is) c.commented.ensures

pub condition_members-commented-requires : goal.condition_members-commented-requires
condition_members-commented-requires t c = named_apart c.in_ok-of-in-And.field-0 (codes "And") c.args.comment.now c.in_ok-of-in-And.ensures refl

pub condition_members-returns-in_ok-of-in-Or : goal.condition_members-returns-in_ok-of-in-Or
condition_members-returns-in_ok-of-in-Or t c = connective_shown c.commented-in-Or.result c.args.comment.now c.in_ok-of-in-Or.field-0 (codes "Or") (data_of c.in_ok-value-in-Or.value) (rule_list c.in-Or.rules.items) c.args.condition.now c.in_ok-of-in-Or.ensures (c.in_ok-value-in-Or.ensures) (ap condition_named c.in-Or.is) c.commented-in-Or.ensures

pub condition_members-commented-requires-in-Or : goal.condition_members-commented-requires-in-Or
condition_members-commented-requires-in-Or t c = named_apart c.in_ok-of-in-Or.field-0 (codes "Or") c.args.comment.now c.in_ok-of-in-Or.ensures refl

pub condition_members-returns-in_ok-of-in-Not : goal.condition_members-returns-in_ok-of-in-Not
condition_members-returns-in_ok-of-in-Not t c = connective_shown c.commented-in-Not.result c.args.comment.now c.in_ok-of-in-Not.field-0 (codes "Not") (data_of c.in_ok-value-in-Not.value) (rule_object c.in-Not.rule.value) c.args.condition.now c.in_ok-of-in-Not.ensures (c.in_ok-value-in-Not.ensures ∙ ap rule_object c.deref.ensures) (ap condition_named c.in-Not.is) c.commented-in-Not.ensures

pub condition_members-commented-requires-in-Not : goal.condition_members-commented-requires-in-Not
condition_members-commented-requires-in-Not t c = named_apart c.in_ok-of-in-Not.field-0 (codes "Not") c.args.comment.now c.in_ok-of-in-Not.ensures refl

pub condition_members-returns-in-Test : goal.condition_members-returns-in-Test
condition_members-returns-in-Test t c = shown_ok c.test_members.result _ _ (sym (ap (λ x. rule_named c.args.comment.now x) c.in-Test.is)) c.test_members.ensures
