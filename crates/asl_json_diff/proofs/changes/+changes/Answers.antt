use Rattle.std.proofs.Common.{◌≡◌, ◌≤◌, ◌++◌, ℕ, List, ap, subst, ◌∙◌, arith, string_bytes}
use Rattle.std.specs.Prelude.{Option, option_map, slice_get}
use Rattle.asl_json_write.specs.Pointers.{index_part}
use Rattle.asl_json_data.specs.Data.{Data, depth, items_depth, members_depth, chain, pairs}
use Rattle.asl_json_data.specs.Distinct.{Members}
use Rattle.asl_json.specs.View.{data_of, items_of}
use Rattle.asl_json.proofs.Sounding.{item_depth, member_depth}
use Rattle.asl_json_diff.specs.Changes.{part_change}
use Rattle.asl_json_diff.proofs.Lists.{items_step}
use Rattle.asl_json_diff.proofs.changes.+changes.Goals as goal

pub put_items-put_part-requires : goal.put_items-put_part-requires
put_items-put_part-requires t c =
    let within : depth (data_of c.index-old-number.result) ≤ items_depth (chain c.args.old.now) = subst (λ (ds : List Data). depth (data_of c.index-old-number.result) ≤ items_depth (chain ds)) c.values-old.ensures (item_depth c.values-old.result.now c.loop-number.number c.index-old-number.result c.loop-number-test.true c.index-old-number.is) in
    (omega (arith, within), tt)

pub put_members-put_part-requires : goal.put_members-put_part-requires
put_members-put_part-requires t c =
    let within : depth (data_of c.member-item.result.value) ≤ members_depth (pairs c.args.old.now) = subst (λ (ms : Members). depth (data_of c.member-item.result.value) ≤ members_depth (pairs ms)) c.members-member-items.ensures.members (member_depth c.members-member-items.result.now c.loop-member.member-index c.member-item.result c.loop-member-test.true c.member-item.is) in
    (omega (arith, within), tt)

pub put_items-loop-number-preserved : goal.put_items-loop-number-preserved
put_items-loop-number-preserved t c =
    let es = c.values-new.result.now in
    let i = c.loop-number.number in
    let v = c.index-old-number.result in
    let old : List ℕ = string_bytes c.loop-number.out in
    let place : c.as_str.result.now ≡ c.args.place.now ++ index_part i = c.as_str.ensures.value ∙ c.in_ok-at.ensures in
    let is : string_bytes c.put_part.new.out ≡ old ++ part_change c.args.lead.now (c.args.place.now ++ index_part i) (data_of v) (slice_get (items_of es) i) =
    c.in_ok-put_part.ensures ∙ ap (λ (p : List ℕ). old ++ part_change c.args.lead.now p (data_of v) (option_map (λ x. data_of x.now) c.item_at.result)) place ∙ ap (λ (o : Option Data). old ++ part_change c.args.lead.now (c.args.place.now ++ index_part i) (data_of v) o) c.item_at.ensures in
    items_step c.args.lead.now c.args.place.now c.values-old.result.now es i v old (string_bytes c.put_part.new.out) _ c.loop-number-test.true c.index-old-number.is c.loop-number.invariant is
