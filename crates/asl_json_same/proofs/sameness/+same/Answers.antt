use Rattle.std.proofs.Common.{◌≢◌, ◌≤◌, List, length, subst, arith}
use Rattle.asl_json_data.specs.Data.{Data, depth, items_depth, members_depth, chain, pairs}
use Rattle.asl_json_data.specs.Distinct.{Members}
use Rattle.asl_json.specs.View.{data_of}
use Rattle.asl_json.proofs.Sounding.{item_depth, member_depth}
use Rattle.asl_json_same.proofs.Counting.{unlike_items}
use Rattle.asl_json_same.proofs.sameness.+same.Goals as goal

pub same_lists-returns-then-len : goal.same_lists-returns-then-len
same_lists-returns-then-len t c =
    let ne : length c.args.a.now ≢ length c.args.b.now = omega (arith, c.len.ensures, c.len-2.ensures, c.if-len.true) in
    unlike_items c.args.a.now c.args.b.now ne

pub same_lists-same-requires : goal.same_lists-same-requires
same_lists-same-requires t c =
    let within : depth (data_of c.index-items-i.result) ≤ items_depth (chain c.args.a.now) = subst (λ (ds : List Data). depth (data_of c.index-items-i.result) ≤ items_depth (chain ds)) c.values-items.ensures (item_depth c.values-items.result.now c.loop-i.i c.index-items-i.result c.loop-i-test.true c.index-items-i.is) in
    omega (arith, within)

pub has_each-same-requires : goal.has_each-same-requires
has_each-same-requires t c =
    let within : depth (data_of c.member-item.result.value) ≤ members_depth (pairs c.args.a.now) = subst (λ (ms : Members). depth (data_of c.member-item.result.value) ≤ members_depth (pairs ms)) c.members-member-items.ensures.members (member_depth c.members-member-items.result.now c.loop-i.i c.member-item.result c.loop-i-test.true c.member-item.is) in
    omega (arith, within)
