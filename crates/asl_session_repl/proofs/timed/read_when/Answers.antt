use Rattle.asl_session_repl.proofs.Spans.{when_span, when_clock, when_stamp}
use Rattle.asl_session_repl.proofs.timed.read_when.Goals as goal

pub returns-in-Some-clause-only : goal.returns-in-Some-clause-only
returns-in-Some-clause-only c =
    let text = c.as_bytes.ensures.value in
    when_span c.args.text.now c.in-Some.millis c.read_span.result (rw text at c.in-Some.ensures.found) c.in-Some.is (λ k h. c.read_span.ensures.only k (rw text h))

pub returns-in-Some-read_clock-clause-only : goal.returns-in-Some-read_clock-clause-only
returns-in-Some-read_clock-clause-only c =
    when_clock c.args.text.now c.in-Some-read_clock.millis c.read_span.result c.read_clock.result c.in_default.is (λ k g. c.read_span.ensures.only k (rw c.as_bytes.ensures.value g)) (rw c.as_bytes-2.ensures.value at c.read_clock.ensures) c.in-Some-read_clock.is

pub returns-in-Some-read_stamp-clause-only : goal.returns-in-Some-read_stamp-clause-only
returns-in-Some-read_stamp-clause-only c = λ w h.
    rw c.in-Some-read_stamp.is at (when_stamp c.args.text.now c.read_span.result c.read_clock.result c.read_stamp.result c.in_default.is (λ k g. c.read_span.ensures.only k (rw c.as_bytes.ensures.value g)) (rw c.as_bytes-2.ensures.value at c.read_clock.ensures) c.in_default-read_clock.is c.read_stamp.ensures.only w h)
