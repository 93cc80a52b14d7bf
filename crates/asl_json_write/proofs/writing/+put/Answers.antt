use Rattle.std.proofs.Common.{◌≤◌, List, subst, arith}
use Rattle.asl_json_data.specs.Data.{Data, depth, items_depth, members_depth, chain, pairs}
use Rattle.asl_json_data.specs.Distinct.{Members}
use Rattle.asl_json.specs.View.{data_of}
use Rattle.asl_json.proofs.Sounding.{item_depth, member_depth}
use Rattle.asl_json_write.proofs.Buffers.{keeps_on, keeps_pushed}
use Rattle.asl_json_write.proofs.writing.+put.Goals as goal

pub put_items-returns-in_err-put_value-clause-kept : goal.put_items-returns-in_err-put_value-clause-kept
put_items-returns-in_err-put_value-clause-kept t c = keeps_on _ _ _ (keeps_pushed _ _ _ _ c.loop-i.invariant.1 c.in_ok-separate.ensures.ok) c.put_value.ensures.kept

pub put_members-returns-in_err-put_text-clause-kept : goal.put_members-returns-in_err-put_text-clause-kept
put_members-returns-in_err-put_text-clause-kept t c = keeps_on _ _ _ (keeps_pushed _ _ _ _ c.loop-i.invariant.1 c.in_ok-separate.ensures.ok) c.put_text.ensures.kept

pub put_members-returns-in_err-put_value-clause-kept : goal.put_members-returns-in_err-put_value-clause-kept
put_members-returns-in_err-put_value-clause-kept t c =
    let key = keeps_on _ _ _ (keeps_pushed _ _ _ _ c.loop-i.invariant.1 c.in_ok-separate.ensures.ok) c.put_text.ensures.kept in
    keeps_on _ _ _ (keeps_pushed _ _ _ _ key c.in_ok-push-2.ensures.bytes) c.put_value.ensures.kept

pub put_items-put_value-requires : goal.put_items-put_value-requires
put_items-put_value-requires t c =
    let within : depth (data_of c.item-item.result) ≤ items_depth (chain c.args.items.now) = subst (λ (ds : List Data). depth (data_of c.item-item.result) ≤ items_depth (chain ds)) c.values-item-items.ensures (item_depth c.values-item-items.result.now c.loop-i.i c.item-item.result c.loop-i-test.true c.item-item.is) in
    omega (arith, within)

pub put_members-put_value-requires : goal.put_members-put_value-requires
put_members-put_value-requires t c =
    let within : depth (data_of c.member-item.result.value) ≤ members_depth (pairs c.args.members.now) = subst (λ (ms : Members). depth (data_of c.member-item.result.value) ≤ members_depth (pairs ms)) c.members-member-items.ensures.members (member_depth c.members-member-items.result.now c.loop-i.i c.member-item.result c.loop-i-test.true c.member-item.is) in
    omega (arith, within)
