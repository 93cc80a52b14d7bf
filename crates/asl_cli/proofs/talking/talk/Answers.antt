use Rattle.asl_cli.proofs.Talks.{answered-more, halted, talked-last, talked-in-part, talked-on, talked-out}
use Rattle.asl_cli.proofs.talking.talk.Goals as goal

pub loop-number-preserved : goal.loop-number-preserved
loop-number-preserved g c =
    let asked = rw (c.in-Ok-Some.field-0-is, ← c.as_slice.ensures.value) at c.in-Ok-Some.ensures.line in
    let told = c.in-Ok-More.ensures.more c.in-Ok-More.field-0-is in
    answered-more g.I.Input.given g.I.Input.ended g.O.Sink.taken g.O.Sink.failures c.args.strict c.args.look c.args.console.now c.loop-number.console c.reply.new.console c.loop-number.number c.args.input.now c.loop-number.input c.line.new.self c.args.out.now c.loop-number.out c.reply.new.out c.as_slice.result.now told.0 c.loop-number.invariant asked told.1 told.2

pub returns-in-Ok-Last-clause-whole : goal.returns-in-Ok-Last-clause-whole
returns-in-Ok-Last-clause-whole g c =
    let asked = rw (c.in-Ok-Some.field-0-is, ← c.as_slice.ensures.value) at c.in-Ok-Some.ensures.line in
    let told = c.in-Ok-Last.ensures.last c.in-Ok-Last.field-0-is in
    talked-last g.I.Input.given g.I.Input.ended g.O.Sink.taken g.O.Sink.failures c.args.strict c.args.look c.args.console.now c.loop-number.console c.reply.new.console c.loop-number.number c.args.input.now c.loop-number.input c.line.new.self c.args.out.now c.loop-number.out c.reply.new.out c.as_slice.result.now told.0 c.loop-number.invariant asked told.1 told.2

pub returns-in-Ok-Stop-clause-whole : goal.returns-in-Ok-Stop-clause-whole
returns-in-Ok-Stop-clause-whole g c =
    let asked = rw (c.in-Ok-Some.field-0-is, ← c.as_slice.ensures.value) at c.in-Ok-Some.ensures.line in
    let told = c.in-Ok-Stop.ensures.stop c.in-Ok-Stop.field-0-is in
    halted g.I.Input.given g.I.Input.ended g.O.Sink.taken g.O.Sink.failures c.args.strict c.args.look c.args.console.now c.loop-number.console c.reply.new.console c.loop-number.number c.args.input.now c.loop-number.input c.line.new.self c.args.out.now c.loop-number.out c.reply.new.out c.as_slice.result.now told.0 c.loop-number.invariant asked told.1 told.2

pub returns-in-Err-reply-clause-fault : goal.returns-in-Err-reply-clause-fault
returns-in-Err-reply-clause-fault g c =
    let asked = rw (c.in-Ok-Some.field-0-is, ← c.as_slice.ensures.value) at c.in-Ok-Some.ensures.line in
    let told = c.in-Err-reply.ensures.err in
    talked-in-part g.I.Input.given g.I.Input.ended g.O.Sink.taken g.O.Sink.failures c.args.strict c.args.look c.args.console.now c.loop-number.console c.reply.new.console c.loop-number.number c.args.input.now c.loop-number.input c.line.new.self c.args.out.now c.loop-number.out c.reply.new.out c.as_slice.result.now told.0 c.loop-number.invariant asked told.1 told.2

pub returns-in-Ok-None-clause-whole : goal.returns-in-Ok-None-clause-whole
returns-in-Ok-None-clause-whole g c =
    let none = rw (c.in-Ok-None.field-0-is) at c.in-Ok-None.ensures.line in
    talked-out g.I.Input.given g.I.Input.ended g.O.Sink.taken g.O.Sink.failures c.args.strict c.args.look c.args.console.now c.loop-number.console c.loop-number.number c.args.input.now c.loop-number.input c.line.new.self c.args.out.now c.loop-number.out c.loop-number.invariant none (rw (c.in-Ok-None.field-0-is) at c.in-Ok-None.ensures.ended)

pub returns-in-Err-clause-fault : goal.returns-in-Err-clause-fault
returns-in-Err-clause-fault g c = (c.loop-number.number, talked-on g.I.Input.given g.I.Input.ended g.O.Sink.taken g.O.Sink.failures c.args.strict c.args.look c.args.console.now c.loop-number.console c.loop-number.number c.args.input.now c.loop-number.input c.line.new.self c.args.out.now c.loop-number.out c.loop-number.invariant c.in-Err.ensures.err)

pub returns-clause-fault : goal.returns-clause-fault
returns-clause-fault g c = (c.loop-number.number, c.loop-number.invariant)
