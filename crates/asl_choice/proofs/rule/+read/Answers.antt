use Rattle.std.proofs.Common.{◌≡◌, ◌≤◌, suc, List, [], ◌∷◌, ◌++◌, refl, sym, subst, ap, ◌∙◌, arith}
use Rattle.std.specs.Prelude.{codes, Option, IfSome, option_map}
use Rattle.asl_json_data.specs.Data.{Data, pairs, chain, depth, items_depth, members_depth}
use Rattle.asl_json.specs.View.{data_of, items_of, members_of}
use Rattle.asl_def_schema.specs.declared.sort.Sort.TheVariants.{Text}
use Rattle.asl_def_schema.specs.Canon.{Named, canon, opt}
use Rattle.asl_def_schema.specs.Clean.{Fits}
use Rattle.asl_def_fields.specs.Readable.{IsText}
use Rattle.asl_def_fields.proofs.Fitting.{fit, text_fits}
use Rattle.asl_choice.proofs.Within.{item_within}
use Rattle.asl_choice.specs.declared.operator.RuleKind.{RuleKind}
use Rattle.asl_choice.specs.declared.operator.RuleKind.TheVariants as kind
use Rattle.asl_choice.specs.Rules.{HasVariable, rule_object, rule_list, kind_name, kind_sort}
use Rattle.asl_choice.proofs.Ruled.{ruled}
use Rattle.asl_choice.proofs.Shows.{rule_shows, inner_is, inner_ok, inner_item, rules_push, rules_show, connected, tested, value_within}
use Rattle.asl_choice.proofs.rule.+read.Goals as goal

pub condition_of-returns-in_ok-rules-in-And : goal.condition_of-returns-in_ok-rules-in-And
condition_of-returns-in_ok-rules-in-And t c =
    let v : Option Data = option_map (λ r. data_of r.now) c.args.variable in
    connected c.args.kind kind.And v (data_of c.args.value.now) (rule_list c.in_ok-rules-in-And.field-0.items) c.in-And.is (subst (λ (k : RuleKind). HasVariable k v) c.in-And.is c.requires.variable) c.in_ok-rules-in-And.ensures

pub condition_of-returns-in_ok-rules-in-Or : goal.condition_of-returns-in_ok-rules-in-Or
condition_of-returns-in_ok-rules-in-Or t c =
    let v : Option Data = option_map (λ r. data_of r.now) c.args.variable in
    connected c.args.kind kind.Or v (data_of c.args.value.now) (rule_list c.in_ok-rules-in-Or.field-0.items) c.in-Or.is (subst (λ (k : RuleKind). HasVariable k v) c.in-Or.is c.requires.variable) c.in_ok-rules-in-Or.ensures

pub condition_of-returns-in_ok-new-in-Not : goal.condition_of-returns-in_ok-new-in-Not
condition_of-returns-in_ok-new-in-Not t c =
    let v : Option Data = option_map (λ r. data_of r.now) c.args.variable in
    connected c.args.kind kind.Not v (data_of c.args.value.now) (rule_object c.in_ok-new-in-Not.field-0.value) c.in-Not.is (subst (λ (k : RuleKind). HasVariable k v) c.in-Not.is c.requires.variable) (ap rule_object c.in_ok-new-in-Not.ensures.ok ∙ c.in_ok-inner_rule-in-Not.ensures)

pub condition_of-returns-in_ok-test_of-in-Test : goal.condition_of-returns-in_ok-test_of-in-Test
condition_of-returns-in_ok-test_of-in-Test t c =
    let v : Option Data = option_map (λ r. data_of r.now) c.args.variable in
    tested c.args.kind c.in-Test.operator v (data_of c.args.value.now) c.in_ok-test_of-in-Test.field-0.variable _ c.in-Test.is c.in_ok-test_of-in-Test.ensures.variable c.in_ok-test_of-in-Test.ensures.comparison

pub rules-inner_rule-requires : goal.rules-inner_rule-requires
rules-inner_rule-requires t c =
    let within : depth (data_of c.item-item.result) ≤ items_depth (chain (items_of c.values-values.result.now)) = item_within data_of c.values-values.result.now c.loop-item.item-index c.item-item.result c.loop-item-test.true c.item-item.is in
    let same : items_depth (chain (items_of c.values-values.result.now)) ≡ items_depth (chain c.in-List.items) = ap (λ (ds : List Data). items_depth (chain ds)) c.values-values.ensures in
    let whole : depth (data_of c.args.value.now) ≡ suc (items_depth (chain c.in-List.items)) = ap (λ v. depth (data_of v)) c.in-List.is in
    (omega (arith, within, same, whole), inner_item (data_of c.args.value.now) c.values-values.result.now c.in-List.items c.loop-item.item-index c.item-item.result c.requires (ap data_of c.in-List.is) c.values-values.ensures c.loop-item-test.true c.item-item.is)

pub rules-loop-item-preserved : goal.rules-loop-item-preserved
rules-loop-item-preserved t c = rules_push c.values-values.result.now c.loop-item.item-index c.item-item.result c.loop-item.rules.items c.in_ok-inner_rule.field-0 c.push.new.self.items c.loop-item-test.true c.item-item.is c.loop-item.invariant c.in_ok-inner_rule.ensures c.in_ok-push.ensures.items

pub rules-returns : goal.rules-returns
rules-returns t c = rules_show (data_of c.args.value.now) c.values-values.result.now c.in-List.items c.loop-item.item-index c.loop-item.rules.items c.loop-item-test.false (ap data_of c.in-List.is) c.values-values.ensures c.loop-item.invariant

pub inner_rule-read-requires : goal.inner_rule-read-requires
inner_rule-read-requires t c =
    let xs = members_of c.members.result.now in
    let whole : depth (data_of c.args.value.now) ≡ suc (members_depth (pairs c.in-Dict.members)) = ap (λ v. depth (data_of v)) c.in-Dict.is in
    let same : members_depth (pairs (members_of c.members.result.now)) ≡ members_depth (pairs c.in-Dict.members) = ap (λ (ms : List Named). members_depth (pairs ms)) c.members.ensures.members in
    (omega (arith, whole, same), inner_is (data_of c.args.value.now) xs c.in-Dict.members c.requires (ap data_of c.in-Dict.is) c.members.ensures.members)

pub inner_rule-returns : goal.inner_rule-returns
inner_rule-returns t c = inner_ok (data_of c.args.value.now) (members_of c.members.result.now) c.in-Dict.members c.read.result (ap data_of c.in-Dict.is) c.members.ensures.members c.read.ensures

pub Rule::read-read_optional-requires : goal.Rule::read-read_optional-requires
Rule::read-read_optional-requires t c = subst (λ (o : Option Data). IfSome o IsText) (sym c.find.ensures) (fit Text IsText (λ d clean. text_fits Text d refl clean) _ (ruled (pairs (members_of c.args.members.now)) c.requires).comment)

pub Rule::read-condition_of-requires : goal.Rule::read-condition_of-requires
Rule::read-condition_of-requires t c =
    let ms = pairs (members_of c.args.members.now) in
    let k = c.in-Some.kind in
    let d = data_of c.in-Some.value.now in
    let at = c.in-Some.ensures.found in
    let all = ruled ms c.requires in
    let within : depth (data_of c.in-Some.value.now) ≤ members_depth (pairs (members_of c.args.members.now)) = value_within (kind_name k) ms d at in
    (omega (arith, within), (subst (λ (o : Option Data). Fits (kind_sort k) o) at (all.fits k), subst (λ (o : Option Data). HasVariable k o) (sym c.find-2.ensures) (all.variable k d at)))

pub Rule::read-returns : goal.Rule::read-returns
Rule::read-returns t c =
    let k = c.in-Some.kind in
    let d = data_of c.in-Some.value.now in
    rule_shows (pairs (members_of c.args.members.now)) c.in_ok-comment.comment c.in_ok-condition.condition k d c.requires c.in-Some.ensures.found (c.in_ok-comment.ensures ∙ c.find.ensures) (c.in_ok-condition.ensures ∙ ap (λ (o : Option Data). opt (codes "Variable") o ++ (kind_name k, canon (kind_sort k) d) ∷ []) c.find-2.ensures)

pub Rule::read-unreachable-requires : goal.Rule::read-unreachable-requires
Rule::read-unreachable-requires t c =
    let off = c.in_default.ensures.none refl in
    let on = (ruled (pairs (members_of c.args.members.now)) c.requires).decided in
    cc (off, on)
