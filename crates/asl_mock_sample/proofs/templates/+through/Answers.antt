use Rattle.std.proofs.Common.{◌≤◌, List, subst, arith}
use Rattle.asl_json_data.specs.Data.{Data, depth, items_depth, members_depth, chain, pairs}
use Rattle.asl_json_data.specs.Distinct.{Members}
use Rattle.asl_json.specs.View.{data_of}
use Rattle.asl_json.proofs.Sounding.{item_depth, member_depth}
use Rattle.asl_mock_sample.proofs.templates.+through.Goals as goal

pub through_items-through-requires : goal.through_items-through-requires
through_items-through-requires t c =
    let within : depth (data_of c.item-item.result) ≤ items_depth (chain c.args.items.now) = subst (λ (ds : List Data). depth (data_of c.item-item.result) ≤ items_depth (chain ds)) c.values-item-items.ensures (item_depth c.values-item-items.result.now c.loop-item.item-index c.item-item.result c.loop-item-test.true c.item-item.is) in
    (omega (arith, within), tt)

pub through_members-through_member-requires : goal.through_members-through_member-requires
through_members-through_member-requires t c =
    let within : depth (data_of c.member-item.result.value) ≤ members_depth (pairs c.args.members.now) = subst (λ (ms : Members). depth (data_of c.member-item.result.value) ≤ members_depth (pairs ms)) c.members-member-items.ensures.members (member_depth c.members-member-items.result.now c.loop-member.member-index c.member-item.result c.loop-member-test.true c.member-item.is) in
    (omega (arith, within), tt)
