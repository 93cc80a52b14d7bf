use Rattle.std.proofs.Common.{◌∙◌, inl, inr, refl, sym, append-nil}
use Rattle.std.proofs.lemmas.Result.{err_from_is_err_and}
use Rattle.asl_cli.proofs.Serves.{served-more, served-still, served-until, served-up-to}
use Rattle.asl_cli.proofs.serving.serve_on.Goals as goal

pub returns-in-Ok-None-clause-ok : goal.returns-in-Ok-None-clause-ok
returns-in-Ok-None-clause-ok g c =
    let came = rw c.in-Ok-None.field-0-is at c.in-Ok-None.ensures.bytes in
    let over = rw c.in-Ok-None.field-0-is at c.in-Ok-None.ensures.ended in (
      c.loop.service,
      served-still g.I.Input.given g.I.Input.ended g.O.Sink.taken g.O.Sink.failures c.args.input.now c.loop.input c.bytes.new.self c.args.out.now c.loop.out c.loop.service (came ∙ append-nil (g.I.Input.given c.loop.input)) c.loop.invariant,
      inr over,
    )

pub returns-in-Err-clause-err : goal.returns-in-Err-clause-err
returns-in-Err-clause-err g c =
    served-up-to g.I.Input.given g.I.Input.ended g.O.Sink.taken g.O.Sink.failures c.args.input.now c.loop.input c.bytes.new.self c.args.out.now c.loop.out c.loop.out c.loop.service _ (c.in-Err.ensures.err ∙ sym (append-nil (g.I.Input.given c.loop.input))) refl c.loop.invariant

pub returns-in_err-answer-clause-err : goal.returns-in_err-answer-clause-err
returns-in_err-answer-clause-err g c =
    let came = rw (c.in-Ok-Some.field-0-is, ← c.as_slice.ensures.value) at c.in-Ok-Some.ensures.bytes in
    let h = c.loop.invariant in
    let p = err_from_is_err_and c.from_residual.result c.from_residual.ensures.1 in
    rw (p.1, p.2) (served-until g.I.Input.given g.I.Input.ended g.O.Sink.taken g.O.Sink.failures c.in_err-answer.field-0.0 c.args.input.now c.loop.input c.bytes.new.self c.args.out.now c.loop.out c.answer.new.out c.loop.service c.answer.new.service c.as_slice.result.now h came (c.in_err-answer.ensures.err h.bytes h.sent h.serving))

pub returns-then-has_ended-clause-ok : goal.returns-then-has_ended-clause-ok
returns-then-has_ended-clause-ok g c =
    let came = rw (c.in-Ok-Some.field-0-is, ← c.as_slice.ensures.value) at c.in-Ok-Some.ensures.bytes in
    let h = c.loop.invariant in
    let told = c.in_ok-answer.ensures.ok h.bytes h.sent h.serving in (
      c.answer.new.service,
      served-more g.I.Input.given g.I.Input.ended g.O.Sink.taken g.O.Sink.failures c.args.input.now c.loop.input c.bytes.new.self c.args.out.now c.loop.out c.answer.new.out c.loop.service c.answer.new.service c.as_slice.result.now told.0 h came told.1 told.2,
      inl (sym c.has_ended.ensures ∙ c.if-has_ended.true),
    )

pub loop-preserved : goal.loop-preserved
loop-preserved g c =
    let came = rw (c.in-Ok-Some.field-0-is, ← c.as_slice.ensures.value) at c.in-Ok-Some.ensures.bytes in
    let h = c.loop.invariant in
    let told = c.in_ok-answer.ensures.ok h.bytes h.sent h.serving in
    served-more g.I.Input.given g.I.Input.ended g.O.Sink.taken g.O.Sink.failures c.args.input.now c.loop.input c.bytes.new.self c.args.out.now c.loop.out c.answer.new.out c.loop.service c.answer.new.service c.as_slice.result.now told.0 h came told.1 told.2

pub returns-clause-err : goal.returns-clause-err
returns-clause-err g c =
    served-up-to g.I.Input.given g.I.Input.ended g.O.Sink.taken g.O.Sink.failures c.args.input.now c.loop.input c.loop.input c.args.out.now c.loop.out c.loop.out c.loop.service _ (sym (append-nil (g.I.Input.given c.loop.input))) refl c.loop.invariant
