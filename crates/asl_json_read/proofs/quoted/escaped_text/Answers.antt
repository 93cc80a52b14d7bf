use Rattle.std.proofs.Common.{arith, ap, length, ◌∙◌, refl}
use Rattle.std.proofs.lemmas.List.{length-append}
use Rattle.std.proofs.lemmas.Result.{err_from_is_err_and}
use Rattle.std.specs.Prelude.{string_bytes}
use Rattle.asl_json_scan.proofs.Escapes.{breaks_along, plain_run, to_end, to_escape, text_halts}
use Rattle.asl_json_read.proofs.quoted.escaped_text.Goals as goal

pub append-requires : goal.append-requires
append-requires c = (c.split_plain.ensures.utf8 c.loop-content.invariant.1).0

pub returns-in-Some-clause-found : goal.returns-in-Some-clause-found
returns-in-Some-clause-found c =
    let s = string_bytes c.append.new.text in
    rw c.new.ensures (plain_run c.args.bytes.now (string_bytes c.loop-content.content) c.loop-content.rest.now _ _ s c.loop-content.invariant.0 c.split_plain.ensures.parts c.split_plain.ensures.plain c.in_ok-append.ensures.ok ∙ to_end s _ _ c.in-Some.ensures.found)

pub returns-in-Some-clause-shorter : goal.returns-in-Some-clause-shorter
returns-in-Some-clause-shorter c = omega (arith, ap length c.split_plain.ensures.parts, length-append c.split_plain.result.0.now c.split_plain.result.1.now, c.loop-content.invariant.2, ap length c.in-Some.ensures.found)

pub returns-in-Some-clause-utf8 : goal.returns-in-Some-clause-utf8
returns-in-Some-clause-utf8 c = c.in-Some.ensures.utf8 (c.split_plain.ensures.utf8 c.loop-content.invariant.1).1

pub returns-in_default-after_byte-clause-broken : goal.returns-in_default-after_byte-clause-broken
returns-in_default-after_byte-clause-broken c =
    let s = string_bytes c.append.new.text in
    rw c.syntax.ensures (plain_run c.args.bytes.now (string_bytes c.loop-content.content) c.loop-content.rest.now _ _ s c.loop-content.invariant.0 c.split_plain.ensures.parts c.split_plain.ensures.plain c.in_ok-append.ensures.ok ∙ text_halts s _ c.split_plain.ensures.stops c.in_default.ensures.none c.in_default-after_byte.ensures.none)

pub returns-in_err-character-clause-broken : goal.returns-in_err-character-clause-broken
returns-in_err-character-clause-broken c =
    let p = err_from_is_err_and c.from_residual-in_err-character.result c.from_residual-in_err-character.ensures.1 in
    let s = string_bytes c.append.new.text in
    rw (p.1, p.2) (breaks_along c.in_err-character.field-0.0 _ _ (plain_run c.args.bytes.now (string_bytes c.loop-content.content) c.loop-content.rest.now _ _ s c.loop-content.invariant.0 c.split_plain.ensures.parts c.split_plain.ensures.plain c.in_ok-append.ensures.ok ∙ to_escape s _ _ c.in-Some-after_byte.ensures.found) (c.in_err-character.ensures.broken s))

pub loop-content-preserved : goal.loop-content-preserved
loop-content-preserved c =
    let s = string_bytes c.append.new.text in (
      plain_run c.args.bytes.now (string_bytes c.loop-content.content) c.loop-content.rest.now _ _ s c.loop-content.invariant.0 c.split_plain.ensures.parts c.split_plain.ensures.plain c.in_ok-append.ensures.ok ∙ to_escape s _ _ c.in-Some-after_byte.ensures.found ∙ c.in_ok-character.ensures.found s ∙ rw c.in_ok-push.ensures.bytes refl,
      c.in_ok-character.ensures.utf8 (c.in-Some-after_byte.ensures.utf8 (c.split_plain.ensures.utf8 c.loop-content.invariant.1).1),
      omega (arith, ap length c.split_plain.ensures.parts, length-append c.split_plain.result.0.now c.split_plain.result.1.now, c.loop-content.invariant.2, ap length c.in-Some-after_byte.ensures.found, c.in_ok-character.ensures.shorter),
    )

pub loop-content-smaller : goal.loop-content-smaller
loop-content-smaller c = omega (arith, ap length c.split_plain.ensures.parts, length-append c.split_plain.result.0.now c.split_plain.result.1.now, ap length c.in-Some-after_byte.ensures.found, c.in_ok-character.ensures.shorter)
