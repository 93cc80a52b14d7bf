use Rattle.std.proofs.Common.{◌≤◌, List, subst, arith}
use Rattle.asl_json_data.specs.Data.{Data, depth, items_depth, members_depth, chain, pairs}
use Rattle.asl_json_data.specs.Distinct.{Members}
use Rattle.asl_json.specs.View.{data_of}
use Rattle.asl_json.proofs.Sounding.{item_depth, member_depth}
use Rattle.asl_mock_sample.proofs.rules.+rules.Goals as goal

pub rule_items-rule_wants-requires : goal.rule_items-rule_wants-requires
rule_items-rule_wants-requires t c =
    let within : depth (data_of c.rule-item.result) ≤ items_depth (chain c.args.rules.now) = subst (λ (ds : List Data). depth (data_of c.rule-item.result) ≤ items_depth (chain ds)) c.values-rule-items.ensures (item_depth c.values-rule-items.result.now c.loop-rule.rule-index c.rule-item.result c.loop-rule-test.true c.rule-item.is) in
    (omega (arith, within), tt)

pub rule_members-rule_member-requires : goal.rule_members-rule_member-requires
rule_members-rule_member-requires t c =
    let within : depth (data_of c.member-item.result.value) ≤ members_depth (pairs c.args.members.now) = subst (λ (ms : Members). depth (data_of c.member-item.result.value) ≤ members_depth (pairs ms)) c.members-member-items.ensures.members (member_depth c.members-member-items.result.now c.loop-member.member-index c.member-item.result c.loop-member-test.true c.member-item.is) in
    (omega (arith, within), tt)
