use Rattle.std.proofs.Common.{◌≢◌, ◌<◌, ◌≤◌, ℕ, length, subst, ap, arith}
use Rattle.std.specs.Prelude.{List}
use Rattle.std.proofs.lemmas.List.{length-map}
use Rattle.asl_json_data.specs.Data.{Data, pairs, depth, members_depth}
use Rattle.asl_json.proofs.Equality.{unequal_items, unequal_members}
use Rattle.asl_template.specs.private.View.{part_data, parts_data, field_data, fields_data}
use Rattle.asl_template.proofs.Within.{member_within}
use Rattle.asl_template.proofs.Filled.{fit_at}
use Rattle.asl_template.proofs.Equality.{kept_computed}
use Rattle.asl_template.proofs.equal.+equal.Goals as goal

pub equals_fields-equals_field-requires : goal.equals_fields-equals_field-requires
equals_fields-equals_field-requires t c =
    let xs = c.a.inside.fields.items in
    let ys = c.b.inside.fields.items in
    let i = c.loop-i.i in
    let lx : i < length xs = omega (arith, c.loop-i-test.true, c.len-i-end.ensures) in
    let ly : i < length ys = omega (arith, c.loop-i-test.true, c.len-i-end.ensures, c.len.ensures, c.len-2.ensures, c.if-len.false) in
    let within : depth (field_data c.index.result.now).1 ≤ members_depth (pairs c.args.a.now) = subst (λ (ms : List (List ℕ × Data)). depth (field_data c.index.result.now).1 ≤ members_depth (pairs ms)) c.a.view_is (member_within field_data xs i c.index.result.now lx c.index.ensures) in
    (omega (arith, within), (fit_at xs i c.index.result.now lx c.index.ensures c.a.invariant.fit, fit_at ys i c.index-in-loop-i.result.now ly c.index-in-loop-i.ensures c.b.invariant.fit))

pub equals_field-returns-in-Call-b : goal.equals_field-returns-in-Call-b
equals_field-returns-in-Call-b t c = kept_computed c.args.a.now c.args.b.now c.in-Kept.key c.in-Call-b.field-0 c.in-Call-b.field-1 c.in-Kept.part c.in-Kept.is c.requires.fits (ap field_data c.in-Call-b.is)

pub equals_field-returns-in-Path-b : goal.equals_field-returns-in-Path-b
equals_field-returns-in-Path-b t c = kept_computed c.args.a.now c.args.b.now c.in-Kept.key c.in-Path-b.field-0 c.in-Path-b.field-1 c.in-Kept.part c.in-Kept.is c.requires.fits (ap field_data c.in-Path-b.is)

pub equals_fields-returns-then-len : goal.equals_fields-returns-then-len
equals_fields-returns-then-len t c =
    let xs = c.a.inside.fields.items in
    let ys = c.b.inside.fields.items in
    let ne : length (fields_data xs) ≢ length (fields_data ys) = omega (arith, length-map xs field_data, length-map ys field_data, c.a.inside.fields.ok.0, c.b.inside.fields.ok.0) in
    rw (← c.a.view_is, ← c.b.view_is) (unequal_members (fields_data xs) (fields_data ys) ne)

pub equals_parts-returns-then-len : goal.equals_parts-returns-then-len
equals_parts-returns-then-len t c =
    let xs = c.a.inside.parts.items in
    let ys = c.b.inside.parts.items in
    let ne : length (parts_data xs) ≢ length (parts_data ys) = omega (arith, length-map xs part_data, length-map ys part_data, c.a.inside.parts.ok.0, c.b.inside.parts.ok.0) in
    rw (← c.a.view_is, ← c.b.view_is) (unequal_items (parts_data xs) (parts_data ys) ne)
