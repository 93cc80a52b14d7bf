use Rattle.std.proofs.Common.{[], take, subst, sym, ap, ◌∙◌}
use Rattle.std.specs.Prelude.{List}
use Rattle.asl_json_data.specs.Distinct.{AreDistinct, has_key}
use Rattle.asl_template.specs.private.View.{fields_data}
use Rattle.asl_template.specs.declared.part.Field.{Field}
use Rattle.asl_template.proofs.Apart.{fresh}
use Rattle.asl_template.proofs.rebuild.+rebuild.Goals as goal

pub rebuild_fields-push-requires : goal.rebuild_fields-push-requires
rebuild_fields-push-requires t c =
    let fs = c.deref-field-items.result.now in
    let i = c.loop-field.field-index in
    let f = c.field-item.result in
    let apart = fresh fs i f c.loop-field-test.true c.field-item.is (subst (λ (gs : List Field). AreDistinct [] (fields_data gs)) (sym c.deref-field-items.ensures.value) c.fields.invariant.distinct) in
    ap (λ ms. has_key c.in_ok-key.field-0 ms) c.loop-field.invariant ∙ ap (λ k. has_key k (fields_data (take i fs))) c.in_ok-key.ensures ∙ apart
