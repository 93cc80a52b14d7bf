use Rattle.std.proofs.Common.{arith, ap, length, ◌∙◌, ◌++◌, List, ℕ, sym, subst}
use Rattle.std.proofs.lemmas.List.{append-nil, length-append}
use Rattle.std.specs.Prelude.{string_bytes}
use Rattle.asl_json_data.specs.Compact.{escaped}
use Rattle.asl_json_scan.specs.private.Leads.{NoPlainFirst}
use Rattle.asl_json_write.proofs.Buffers.{keeps_pushed, keeps_as}
use Rattle.asl_json_scan.proofs.Fronts.{not_plain_ascii}
use Rattle.asl_json_write.proofs.Quoting.{written, written_byte}
use Rattle.asl_json_write.proofs.writing.put_escaped.Goals as goal

pub append-requires : goal.append-requires
append-requires c = (c.split_plain.ensures.utf8 c.loop-byte.invariant.1).0

pub put_escape-requires : goal.put_escape-requires
put_escape-requires c = subst NoPlainFirst c.in-Some.ensures.found c.split_plain.ensures.stops

pub returns-in_default-clause-ok : goal.returns-in_default-clause-ok
returns-in_default-clause-ok c =
    let new = string_bytes c.append.new.text in
    sym (append-nil new) ∙ ap (λ (x : List ℕ). new ++ escaped x) (sym c.in_default.ensures.none)
    ∙ written (string_bytes c.loop-byte.out) new c.loop-byte.rest.now _ _ c.split_plain.ensures.parts c.split_plain.ensures.plain c.in_ok-append.ensures.ok ∙ c.loop-byte.invariant.0

pub returns-in_default-clause-kept : goal.returns-in_default-clause-kept
returns-in_default-clause-kept c = keeps_pushed _ _ _ _ c.loop-byte.invariant.2 c.in_ok-append.ensures.ok

pub loop-byte-preserved : goal.loop-byte-preserved
loop-byte-preserved c =
    let new = string_bytes c.append.new.text in (
      written_byte new (string_bytes c.put_escape.new.out) _ _ c.in-Some.byte c.in-Some.ensures.found c.in_ok-put_escape.ensures.ok
          ∙ written (string_bytes c.loop-byte.out) new c.loop-byte.rest.now _ _ c.split_plain.ensures.parts c.split_plain.ensures.plain c.in_ok-append.ensures.ok ∙ c.loop-byte.invariant.0,
      c.in-Some.ensures.utf8 (not_plain_ascii c.in-Some.byte (subst NoPlainFirst c.in-Some.ensures.found c.split_plain.ensures.stops)) (c.split_plain.ensures.utf8 c.loop-byte.invariant.1).1,
      keeps_pushed _ new _ _ (keeps_pushed _ _ new _ c.loop-byte.invariant.2 c.in_ok-append.ensures.ok) c.in_ok-put_escape.ensures.ok,
    )

pub loop-byte-smaller : goal.loop-byte-smaller
loop-byte-smaller c = omega (arith, ap length c.split_plain.ensures.parts, length-append c.split_plain.result.0.now c.split_plain.result.1.now, ap length c.in-Some.ensures.found)
