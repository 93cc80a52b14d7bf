use Rattle.std.proofs.Common.{◌≡◌, ◌≤◌, ℕ, [], true, false, subst, sym, ap, ◌∙◌, arith}
use Rattle.std.specs.Prelude.{List, Ok}
use Rattle.asl_json_data.specs.Data.{Data, pairs, chain, depth, items_depth, members_depth}
use Rattle.asl_json.specs.View.{data_of}
use Rattle.asl_json_data.specs.Distinct.{AreDistinct, has_key}
use Rattle.asl_template.specs.Names.{named}
use Rattle.asl_template.specs.private.View.{AllFit, part_data, parts_data, field_data, fields_data}
use Rattle.asl_intrinsic.specs.Calls.{is_context}
use Rattle.asl_template.specs.Filling.{fill_items, fill_members}
use Rattle.asl_template.specs.declared.part.Field.{Field}
use Rattle.asl_template.proofs.Filled.{path_field, call_field, fit_at, parts_step, parts_end, fields_step, fields_end}
use Rattle.asl_template.proofs.Within.{item_within, member_within}
use Rattle.asl_template.proofs.Apart.{fresh_name, has_key-by, names_step}
use Rattle.asl_template.proofs.fill.+fill.Goals as goal

pub fill_field-returns-then-is_on_context : goal.fill_field-returns-then-is_on_context
fill_field-returns-then-is_on_context t c =
    path_field c.args.field.now c.in-Path.name c.in-Path.path (data_of c.args.input.now) (data_of c.args.context.now) true c.part_of.result c.in-Path.is c.requires (sym (c.if-is_on_context.ensures ∙ ap is_context c.text.ensures.text)) c.part_of.ensures

pub fill_field-returns-else-is_on_context : goal.fill_field-returns-else-is_on_context
fill_field-returns-else-is_on_context t c =
    path_field c.args.field.now c.in-Path.name c.in-Path.path (data_of c.args.input.now) (data_of c.args.context.now) false c.part_of-in-Path.result c.in-Path.is c.requires (sym (c.if-is_on_context.ensures ∙ ap is_context c.text.ensures.text)) c.part_of-in-Path.ensures

pub fill_field-returns-in-Call : goal.fill_field-returns-in-Call
fill_field-returns-in-Call t c = call_field c.args.field.now c.in-Call.name c.in-Call.call (data_of c.args.input.now) (data_of c.args.context.now) c.value_of.result c.in-Call.is c.requires c.value_of.ensures

pub fill_fields-fill_field-requires : goal.fill_fields-fill_field-requires
fill_fields-fill_field-requires t c =
    let whole : fields_data c.deref-field-items.result.now ≡ c.args.fields.now = ap fields_data c.deref-field-items.ensures.value ∙ c.fields.view_is in
    let within : depth (field_data c.field-item.result).1 ≤ members_depth (pairs c.args.fields.now) = subst (λ (ms : List (List ℕ × Data)). depth (field_data c.field-item.result).1 ≤ members_depth (pairs ms)) whole (member_within field_data c.deref-field-items.result.now c.loop-field.field-index c.field-item.result c.loop-field-test.true c.field-item.is) in
    (omega (arith, within), fit_at c.deref-field-items.result.now c.loop-field.field-index c.field-item.result c.loop-field-test.true c.field-item.is (subst AllFit (sym c.deref-field-items.ensures.value) c.fields.invariant.fit))

pub fill_fields-name-requires : goal.fill_fields-name-requires
fill_fields-name-requires t c = fit_at c.deref-field-items.result.now c.loop-field.field-index c.field-item.result c.loop-field-test.true c.field-item.is (subst AllFit (sym c.deref-field-items.ensures.value) c.fields.invariant.fit)

pub fill_fields-push-requires : goal.fill_fields-push-requires
fill_fields-push-requires t c =
    let fs = c.deref-field-items.result.now in
    let i = c.loop-field.field-index in
    let f = c.field-item.result in
    let apart = fresh_name fs i f c.loop-field-test.true c.field-item.is (subst (λ (gs : List Field). AreDistinct [] (named (fields_data gs))) (sym c.deref-field-items.ensures.value) c.fields.invariant.distinct_names) in
    ap (λ k. has_key k c.loop-field.members) (c.in_ok-try_clone.ensures ∙ c.name.ensures) ∙ has_key-by _ c.loop-field.members _ c.loop-field.invariant.1 ∙ apart

pub fill_fields-loop-field-preserved : goal.fill_fields-loop-field-preserved
fill_fields-loop-field-preserved t c =
    let fs = c.deref-field-items.result.now in
    let i = c.loop-field.field-index in
    let f = c.field-item.result in
    let k = c.in_ok-try_clone.field-0 in
    let named = c.in_ok-try_clone.ensures ∙ c.name.ensures in (
      fields_step fs i f c.loop-field.members c.push.new.self k c.in_ok-value.value (data_of c.args.input.now) (data_of c.args.context.now) _ c.loop-field-test.true c.field-item.is c.in_ok-push.ensures.ok named c.in_ok-value.ensures c.loop-field.invariant.0,
      names_step fs i f c.loop-field.members c.push.new.self k (data_of c.in_ok-value.value) c.loop-field-test.true c.field-item.is c.in_ok-push.ensures.ok named c.loop-field.invariant.1,
    )

pub fill_fields-returns : goal.fill_fields-returns
fill_fields-returns t c =
    let same = ap fields_data c.deref-field-items.ensures.value ∙ c.fields.view_is in
    ap (λ ms. fill_members (pairs ms) (data_of c.args.input.now) (data_of c.args.context.now)) (sym same) ∙ fields_end c.deref-field-items.result.now c.loop-field.field-index c.loop-field.members (data_of c.args.input.now) (data_of c.args.context.now) _ c.loop-field-test.false c.loop-field.invariant.0

pub fill_parts-loop-part-preserved : goal.fill_parts-loop-part-preserved
fill_parts-loop-part-preserved t c =
    parts_step c.deref-part-items.result.now c.loop-part.part-index c.part-item.result c.loop-part.values.items c.push.new.self.items c.in_ok-fill.field-0 (data_of c.args.input.now) (data_of c.args.context.now) _ c.loop-part-test.true c.part-item.is c.in_ok-push.ensures.items c.in_ok-fill.ensures c.loop-part.invariant

pub fill_parts-returns : goal.fill_parts-returns
fill_parts-returns t c =
    let same = ap parts_data c.deref-part-items.ensures.value ∙ c.parts.view_is in
    ap (λ ds. fill_items (chain ds) (data_of c.args.input.now) (data_of c.args.context.now)) (sym same) ∙ parts_end c.deref-part-items.result.now c.loop-part.part-index c.loop-part.values.items (data_of c.args.input.now) (data_of c.args.context.now) _ c.loop-part-test.false c.loop-part.invariant ∙ ap (λ ds. Ok (chain ds)) (sym c.of_values.ensures)

pub fill_parts-fill-requires : goal.fill_parts-fill-requires
fill_parts-fill-requires t c =
    let whole : parts_data c.deref-part-items.result.now ≡ c.args.parts.now = ap parts_data c.deref-part-items.ensures.value ∙ c.parts.view_is in
    let within : depth (part_data c.part-item.result) ≤ items_depth (chain c.args.parts.now) = subst (λ (ds : List Data). depth (part_data c.part-item.result) ≤ items_depth (chain ds)) whole (item_within part_data c.deref-part-items.result.now c.loop-part.part-index c.part-item.result c.loop-part-test.true c.part-item.is) in
    (omega (arith, within), tt)
