use Rattle.std.proofs.Common.{◌∙◌, inl, subst}
use Rattle.std.specs.Prelude.{string_bytes}
use Rattle.asl_host.specs.Outcomes.{sink_use}
use Rattle.asl_cli.specs.Streams.{io, output_use}
use Rattle.asl_cli.specs.Suites.{IsLeft}
use Rattle.asl_cli.specs.Projects.{together_seen}
use Rattle.asl_cli.proofs.Parts.{same-leaving}
use Rattle.asl_cli.proofs.suites.test_workflows.Goals as goal

pub returns-in-Ok : goal.returns-in-Ok
returns-in-Ok g c =
    let whole = c.in-Ok.whole in
    let parts = c.in-Ok.ensures.parts in
    inl (
      parts.0,
      parts.1,
      subst (IsLeft (output_use g.K.Outputs.written c.args.outputs.now c.leave.new.outputs) (io (sink_use g.O.Sink.taken g.O.Sink.failures c.args.out.now c.leave.new.out) (sink_use g.E.Sink.taken g.E.Sink.failures c.args.err.now c.leave.new.err) c.leave.result) c.args.quiet) (c.left_of-left.ensures ∙ same-leaving c.args.words.now (string_bytes whole.text) (string_bytes whole.junit) (together_seen whole.together) parts.0 parts.2 c.in-Ok.ensures.text c.in-Ok.ensures.junit) c.leave.ensures,
    )
