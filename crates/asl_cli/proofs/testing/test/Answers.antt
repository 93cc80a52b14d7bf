use Rattle.std.proofs.Common.{inl, inr, refl, subst}
use Rattle.asl_host.specs.Outcomes.{sink_use}
use Rattle.asl_cli.specs.Streams.{io, output_use}
use Rattle.asl_cli.specs.Suites.{IsLeft}
use Rattle.std.specs.Prelude.{string_bytes}
use Rattle.asl_cli.proofs.testing.test.Goals as goal

pub returns-in-Ok : goal.returns-in-Ok
returns-in-Ok g c = inl (string_bytes c.in-Ok.reported.text, string_bytes c.in-Ok.reported.remarks, c.in-Ok.reported.good, string_bytes c.in-Ok.reported.junit, string_bytes c.in-Ok.reported.json, c.in-Ok.ensures.reported, subst (IsLeft (output_use g.K.Outputs.written c.args.outputs.now c.leave.new.outputs) (io (sink_use g.O.Sink.taken g.O.Sink.failures c.args.out.now c.leave.new.out) (sink_use g.E.Sink.taken g.E.Sink.failures c.args.err.now c.leave.new.err) c.leave.result) c.args.quiet) c.left_of-left.ensures c.leave.ensures)

pub returns-in-Err : goal.returns-in-Err
returns-in-Err g c = inr (refl, (c.in-Err.refusal, c.write.ensures.0, c.in-Err.ensures.refused, c.write.ensures.1, refl, refl, c.write.ensures.2))
