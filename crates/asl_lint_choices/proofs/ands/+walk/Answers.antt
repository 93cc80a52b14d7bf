use Rattle.std.proofs.Common.{arith, sym, ◌∙◌}
use Rattle.asl_json.specs.View.{data_of}
use Rattle.asl_json.proofs.Depths.{member_under, item_under}
use Rattle.asl_lint_choices.specs.View.{all_told}
use Rattle.asl_lint_choices.proofs.Parts.{over}
use Rattle.asl_lint_choices.proofs.ands.+walk.Goals as goal

pub add_in_rule-add_in_member-requires : goal.add_in_rule-add_in_member-requires
add_in_rule-add_in_member-requires t c =
    let under = member_under (data_of c.args.rule.now) c.members-member-items.result.now c.loop-member.member-index c.member-item.result c.loop-member-test.true c.member-item.is c.members-member-items.ensures.members in
    (omega (arith, under), tt)

pub add_in_rule-returns : goal.add_in_rule-returns
add_in_rule-returns t c =
    over (all_told c.loop-member.found.items) (all_told c.args.found.now.items) c.args.place.now c.members-member-items.result.now c.loop-member.member-index (data_of c.args.rule.now)
    (omega (arith, c.loop-member-test.false)) (sym c.has_one_part.ensures ∙ c.if-not-has_one_part.false) c.members-member-items.ensures.members c.loop-member.invariant

pub add_in_rules-add_in_rule-requires : goal.add_in_rules-add_in_rule-requires
add_in_rules-add_in_rule-requires t c =
    let under = item_under (data_of c.args.rules.now) c.items-rule-items.result.now c.loop-number.number c.rule-item.result c.loop-number-test.true c.rule-item.is c.items-rule-items.ensures in
    (omega (arith, under), tt)
