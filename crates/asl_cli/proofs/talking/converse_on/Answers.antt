use Rattle.std.proofs.Common.{inl, inr, refl}
use Rattle.asl_cli.proofs.Talks.{broken-off, conversed, stopped, unread}
use Rattle.asl_cli.proofs.talking.converse_on.Goals as goal

pub returns-in-Ok-None : goal.returns-in-Ok-None
returns-in-Ok-None g c = conversed g.I.Input.given g.I.Input.ended g.O.Sink.taken g.O.Sink.failures g.E.Sink.taken g.E.Sink.failures c.args.strict c.args.look c.args.console c.talk.new.console c.args.input.now c.talk.new.input c.args.out.now c.talk.new.out c.print_end.new.out c.args.err.now c.print_end.new.err c.print_end.result (rw (c.in-Ok-None.field-0-is) at c.in-Ok-None.ensures.whole) c.print_end.ensures

pub returns-in-Ok-Some : goal.returns-in-Ok-Some
returns-in-Ok-Some g c = stopped g.I.Input.given g.I.Input.ended g.O.Sink.taken g.O.Sink.failures g.E.Sink.taken g.E.Sink.failures c.args.strict c.args.look c.args.console c.talk.new.console _ c.args.input.now c.talk.new.input c.args.out.now c.talk.new.out c.print_stop.new.out c.args.err.now c.print_stop.new.err c.print_stop.result (rw (c.in-Ok-Some.field-0-is) at c.in-Ok-Some.ensures.whole) c.print_stop.ensures

pub returns-in-Err-Sink : goal.returns-in-Err-Sink
returns-in-Err-Sink g c = broken-off g.I.Input.given g.I.Input.ended g.O.Sink.taken g.O.Sink.failures g.E.Sink.taken g.E.Sink.failures c.args.strict c.args.look c.args.console c.talk.new.console c.args.input.now c.talk.new.input c.args.out.now c.talk.new.out c.args.err.now (rw (c.in-Err-Sink.field-0-is) at c.in-Err-Sink.ensures.fault)

pub returns-in-Err-Input-Unreadable : goal.returns-in-Err-Input-Unreadable
returns-in-Err-Input-Unreadable g c = unread g.I.Input.given g.I.Input.ended g.O.Sink.taken g.O.Sink.failures g.E.Sink.taken g.E.Sink.failures c.args.strict c.args.look c.args.console c.talk.new.console c.args.input.now c.talk.new.input c.args.out.now c.talk.new.out c.args.err.now c.tell_fault.new.err _ (rw (c.in-Err-Input-Unreadable.field-0-is) at c.in-Err-Input-Unreadable.ensures.fault) (inl refl) c.tell_fault.ensures

pub returns : goal.returns
returns g c = unread g.I.Input.given g.I.Input.ended g.O.Sink.taken g.O.Sink.failures g.E.Sink.taken g.E.Sink.failures c.args.strict c.args.look c.args.console c.talk.new.console c.args.input.now c.talk.new.input c.args.out.now c.talk.new.out c.args.err.now c.tell_fault-in-Err-Input-OutOfMemory.new.err _ (rw (c.in-Err-Input-OutOfMemory.field-0-is) at c.in-Err-Input-OutOfMemory.ensures.fault) (inr refl) c.tell_fault-in-Err-Input-OutOfMemory.ensures
