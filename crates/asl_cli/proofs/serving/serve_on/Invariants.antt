use Rattle.asl_host.specs.Outcomes.{sink_use}
use Rattle.asl_cli.specs.Serving.{IsServedBy}
use Rattle.asl_cli.specs.Streams.{input_use}
use Rattle.asl_cli.proofs.serving.serve_on.Given as goal

-- what came so far was answered
abbrev pub invariant-loop : goal.invariant-loop
invariant-loop g l = IsServedBy (input_use g.I.Input.given g.I.Input.ended l.fn.input l.input) (sink_use g.O.Sink.taken g.O.Sink.failures l.fn.out l.out) l.service
