use Rattle.std.proofs.Common.{arith}
use Rattle.asl_json.specs.View.{data_of}
use Rattle.asl_json.proofs.Depths.{member_under, item_under}
use Rattle.asl_graph.proofs.conditions.+condition.Goals as goal

pub put_condition-put_rule_part-requires : goal.put_condition-put_rule_part-requires
put_condition-put_rule_part-requires t c =
    let under = member_under (data_of c.args.rule.now) c.members-member-items.result.now c.loop-member.member-index c.member-item.result c.loop-member-test.true c.member-item.is c.members-member-items.ensures.members in
    (omega (arith, under), tt)

pub put_joined-put_condition-requires : goal.put_joined-put_condition-requires
put_joined-put_condition-requires t c =
    let under = item_under (data_of c.args.rules.now) c.items-rule-items.result.now c.loop-number.number c.rule-item.result c.loop-number-test.true c.rule-item.is c.items-rule-items.ensures in
    (omega (arith, under), tt)
