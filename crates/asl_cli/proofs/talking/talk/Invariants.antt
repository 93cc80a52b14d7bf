use Rattle.asl_host.specs.Outcomes.{sink_use}
use Rattle.asl_cli.specs.Streams.{input_use}
use Rattle.asl_cli.specs.Talking.{AreAnswered}
use Rattle.asl_cli.proofs.talking.talk.Given as goal

abbrev pub invariant-loop-number : goal.invariant-loop-number
invariant-loop-number g l = AreAnswered (input_use g.I.Input.given g.I.Input.ended l.fn.input l.input) (sink_use g.O.Sink.taken g.O.Sink.failures l.fn.out l.out) l.strict l.look l.fn.console l.console l.number
