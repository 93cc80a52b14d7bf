use Rattle.std.proofs.Common.{◌≡◌, ◌≤◌, ◌++◌, ℕ, List, [], ◌∷◌, ap, subst, sym, length, drop, ◌∙◌, arith}
use Rattle.std.specs.Prelude.{Option, slice_get}
use Rattle.asl_json_data.specs.Data.{Data, depth, items_depth, members_depth, chain, pairs}
use Rattle.asl_json_data.specs.Distinct.{Members}
use Rattle.asl_json.specs.View.{data_of, items_of}
use Rattle.asl_json.proofs.Sounding.{item_depth, member_depth}
use Rattle.std.specs.Option.{option_map_or}
use Rattle.std.proofs.lemmas.List.{map_push}
use Rattle.asl_mock_sample.specs.Merging.{merged, merged_items}
use Rattle.asl_mock_sample.proofs.Items.{items_step, items_end}
use Rattle.asl_mock_sample.proofs.merging.+merge.Goals as goal

pub merged_items-merged_part-requires : goal.merged_items-merged_part-requires
merged_items-merged_part-requires t c =
    let within : depth (data_of c.index-one-number.result) ≤ items_depth (chain c.args.one.now) = subst (λ (ds : List Data). depth (data_of c.index-one-number.result) ≤ items_depth (chain ds)) c.values-one.ensures (item_depth c.values-one.result.now c.loop-number.number c.index-one-number.result c.loop-number-test.true c.index-one-number.is) in
    (omega (arith, within), tt)

pub merged_members-merged_part-requires : goal.merged_members-merged_part-requires
merged_members-merged_part-requires t c =
    let within : depth (data_of c.member-item.result.value) ≤ members_depth (pairs c.args.one.now) = subst (λ (ms : Members). depth (data_of c.member-item.result.value) ≤ members_depth (pairs ms)) c.members-member-items.ensures.members (member_depth c.members-member-items.result.now c.loop-member.member-index c.member-item.result c.loop-member-test.true c.member-item.is) in
    (omega (arith, within), tt)

pub merged_items-loop-number-preserved : goal.merged_items-loop-number-preserved
merged_items-loop-number-preserved t c =
    let es = c.values-other.result.now in
    let i = c.loop-number.number in
    let v = c.index-one-number.result in
    let done : List Data = items_of c.loop-number.values.items in
    let is : items_of c.push.new.self.items ≡ done ++ option_map_or (merged (data_of v)) (slice_get (items_of es) i) (data_of v) ∷ [] =
    ap items_of c.in_ok-push.ensures.items ∙ map_push data_of c.loop-number.values.items c.in_ok-merged_part.field-0 ∙ ap (λ (d : Data). done ++ d ∷ []) c.in_ok-merged_part.ensures ∙ ap (λ (o : Option Data). done ++ option_map_or (merged (data_of v)) o (data_of v) ∷ []) c.item_at.ensures in
    items_step c.values-one.result.now es i v done (items_of c.push.new.self.items) _ c.loop-number-test.true c.index-one-number.is c.loop-number.invariant is

pub merged_items-returns : goal.merged_items-returns
merged_items-returns t c =
    let ds = c.values-one.result.now in
    let es = c.values-other.result.now in
    let done : List Data = items_of c.loop-number.values.items in
    let at : c.loop-number.number ≡ length ds = omega (arith, c.loop-number-test.false, c.loop-number.auto.number-end) in
    let added : items_of c.put_items.new.values.items ≡ done ++ items_of (drop c.loop-number.number es) = c.in_ok-put_items.ensures ∙ ap (λ (n : ℕ). done ++ items_of (drop n es)) (sym at) in
    c.of_values.ensures ∙ added ∙ items_end ds es c.loop-number.number done _ (omega (arith, at)) c.loop-number.invariant
    ∙ ap (λ (xs : List Data). merged_items [] (chain xs) (chain (items_of es))) c.values-one.ensures
    ∙ ap (λ (xs : List Data). merged_items [] (chain c.args.one.now) (chain xs)) c.values-other.ensures
