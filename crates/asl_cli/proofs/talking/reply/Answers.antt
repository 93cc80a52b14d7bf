use Rattle.std.proofs.Common.{◌∙◌, sym}
use Rattle.asl_cli.proofs.Talks.{goes_on, reply-broken, stops}
use Rattle.asl_cli.proofs.talking.reply.Goals as goal

pub returns-in_err-write_piece-2-clause-err : goal.returns-in_err-write_piece-2-clause-err
returns-in_err-write_piece-2-clause-err g c = reply-broken c.from_residual-in_err-write_piece-2.result g.O.Sink.taken g.O.Sink.failures c.args.strict c.args.look c.args.out.now c.write_piece-2.new.sink c.args.console.now c.answer.new.self c.args.line.now c.as_str.result.now c.in-Ok.answer.quits c.in-Ok.answer.refused (rw (← c.as_str.ensures.value) at c.in-Ok.ensures.answer) c.in-Ok.ensures.refused c.in_err-write_piece-2.ensures.err

pub returns-then-ends-clause-stop : goal.returns-then-ends-clause-stop
returns-then-ends-clause-stop g c = λ e. (c.as_str.result.now, stops c.args.strict c.args.look c.args.console.now c.answer.new.self c.args.line.now c.as_str.result.now c.in-Ok.answer.quits c.in-Ok.answer.refused c.if-answer.false (sym c.ends.ensures ∙ c.if-ends.true) (rw (← c.as_str.ensures.value) at c.in-Ok.ensures.answer) c.in-Ok.ensures.refused, c.in_ok-write_piece-2.ensures.ok)

pub returns-clause-more : goal.returns-clause-more
returns-clause-more g c = λ e. (c.as_str.result.now, goes_on c.args.strict c.args.look c.args.console.now c.answer.new.self c.args.line.now c.as_str.result.now c.in-Ok.answer.quits c.in-Ok.answer.refused c.if-answer.false (sym c.ends.ensures ∙ c.if-ends.false) (rw (← c.as_str.ensures.value) at c.in-Ok.ensures.answer) c.in-Ok.ensures.refused, c.in_ok-write_piece-2.ensures.ok)
