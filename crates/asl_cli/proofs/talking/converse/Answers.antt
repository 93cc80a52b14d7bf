use Rattle.asl_cli.proofs.Talks.{greeted}
use Rattle.asl_cli.proofs.talking.converse.Goals as goal

pub returns : goal.returns
returns g c = greeted g.I.Input.given g.I.Input.ended g.O.Sink.taken g.O.Sink.failures g.E.Sink.taken g.E.Sink.failures c.args.strict c.args.look c.args.console c.args.input.now c.greet.new.input c.converse_on.new.input c.args.out.now c.converse_on.new.out c.args.err.now c.converse_on.new.err c.converse_on.result c.greet.ensures c.converse_on.ensures
