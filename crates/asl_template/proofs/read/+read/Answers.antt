use Rattle.std.proofs.Common.{◌≡◌, ◌≤◌, ℕ, [], ◌∷◌, ◌++◌, take, subst, sym, ap, ◌∙◌, arith}
use Rattle.std.specs.Prelude.{List, Some, option_map}
use Rattle.asl_json_data.specs.Data.{Data, pairs, chain, depth, items_depth, members_depth}
use Rattle.asl_json.specs.View.{data_of, member_of, members_of}
use Rattle.asl_json_data.specs.Distinct.{AreDistinct}
use Rattle.asl_path.specs.declared.step.Step.TheVariants.{Name}
use Rattle.asl_template.specs.Names.{name_before, is_double}
use Rattle.asl_template.specs.Faults.{claims}
use Rattle.asl_template.specs.private.Broken.{listed, under_read}
use Rattle.asl_json.specs.Keys.{Knows}
use Rattle.asl_template.proofs.Within.{item_within, member_within}
use Rattle.asl_template.proofs.Reading.{parts_read, fields_read, fields_fit, members_more}
use Rattle.asl_template.proofs.Single.{is_object, field_computed}
use Rattle.asl_template.proofs.read.+read.Goals as goal

pub fields-invariant_of-result : goal.fields-invariant_of-result
fields-invariant_of-result t c = is_object c.members-members.result.now c.loop-i.i (listed c.loop-i.read) c.in-Ok.fields.items c.loop-i-test.false (ap listed c.in-Ok.is) c.loop-i.invariant.0 c.loop-i.invariant.1 (subst (AreDistinct []) (sym c.members-members.ensures.members) c.members-members.ensures.distinct)

pub fields-loop-i-preserved : goal.fields-loop-i-preserved
fields-loop-i-preserved t c =
    let ms = c.members-members.result.now in
    let i = c.loop-i.i in
    let m = c.index-members-i.result in
    let so_far = members_of (take i ms) in
    let key = c.as_str-key.ensures in
    let double = c.in_ok-double.ensures ∙ ap (is_double so_far) key in
    let seen_from = c.in_ok-under_name.ensures ∙ ap (λ k. under_read (Name k) c.judged-own.result) key in (
      fields_read ms i m (listed c.loop-i.read) (listed c.in_ok-read.read) c.in_ok-double.double c.in_ok-field.field-0 c.judged-own.result c.in_ok-under_name.field-0 c.loop-i-test.true c.index-members-i.is c.in_ok-field.ensures.reads double c.judged-own.ensures seen_from c.in_ok-read.ensures c.loop-i.invariant.0,
      fields_fit (listed c.loop-i.read) (listed c.in_ok-read.read) (Name m.key) c.in_ok-double.double c.in_ok-field.field-0 c.judged-own.result c.in_ok-under_name.field-0 c.judged-own.ensures seen_from c.in_ok-read.ensures c.loop-i.invariant.1 c.in_ok-field.ensures.fits,
      subst (Knows c.add.new.self) (ap (λ k. so_far ++ (k, data_of m.value) ∷ []) key ∙ sym (members_more ms i m c.loop-i-test.true c.index-members-i.is)) (c.in_ok-add.ensures.ok (data_of m.value)),
    )

pub parts-loop-i-preserved : goal.parts-loop-i-preserved
parts-loop-i-preserved t c =
    parts_read c.values-values.result.now c.loop-i.i c.index-values-i.result (listed c.loop-i.read) (listed c.in_ok-read.read) c.in_ok-part.field-0 c.in_ok-next.next c.loop-i-test.true c.index-values-i.is c.in_ok-part.ensures c.in_ok-next.ensures c.in_ok-read.ensures c.loop-i.invariant

pub fields-field-requires : goal.fields-field-requires
fields-field-requires t c =
    let within : depth (member_of c.index-members-i.result).1 ≤ members_depth (pairs c.args.members.now) = subst (λ (ms : List (List ℕ × Data)). depth (member_of c.index-members-i.result).1 ≤ members_depth (pairs ms)) c.members-members.ensures.members (member_within member_of c.members-members.result.now c.loop-i.i c.index-members-i.result c.loop-i-test.true c.index-members-i.is) in
    (omega (arith, within), tt)

pub parts-part-requires : goal.parts-part-requires
parts-part-requires t c =
    let within : depth (data_of c.index-values-i.result) ≤ items_depth (chain c.args.items.now) = subst (λ (ds : List Data). depth (data_of c.index-values-i.result) ≤ items_depth (chain ds)) c.values-values.ensures (item_within data_of c.values-values.result.now c.loop-i.i c.index-values-i.result c.loop-i-test.true c.index-values-i.is) in
    (omega (arith, within), tt)

pub field-returns-in-Some-clause-reads : goal.field-returns-in-Some-clause-reads
field-returns-in-Some-clause-reads t c =
    let key = c.args.member.now.key in
    let named : name_before key ≡ Some c.in-Some.name.now = ap name_before (sym c.as_str.ensures) ∙ sym c.name_before.ensures ∙ ap (λ o. option_map (λ n. n.now) o) c.in-Some.is in
    field_computed key c.in-Some.name.now (data_of c.args.member.now.value) (claims (data_of c.args.member.now.value)) c.computed_field.result named c.computed_field.ensures.reads
