use Rattle.std.proofs.Common.{inl, inr, refl}
use Rattle.asl_host.specs.Outcomes.{sink_use}
use Rattle.asl_cli.specs.Streams.{file_system, io}
use Rattle.asl_cli.specs.Choices.{IsProjectReason}
use Rattle.asl_cli.proofs.Parts.{wanting}
use Rattle.asl_cli.proofs.suites.test_all.Goals as goal

pub returns-in-Ok : goal.returns-in-Ok
returns-in-Ok g c = elim c.test_workflows.ensures [
  | inl done ↦ inl (c.as_slice-workflows.result.now, c.project_in.new.files, done.0, rw c.as_slice-workflows.ensures.value c.in-Ok.ensures.read, done.1, done.2)
  | inr none ↦ inr (none.0, wanting (io (sink_use g.O.Sink.taken g.O.Sink.failures c.args.out.now c.test_workflows.new.out) (sink_use g.E.Sink.taken g.E.Sink.failures c.args.err.now c.test_workflows.new.err) c.test_workflows.result) c.args.quiet (IsProjectReason (file_system (g.F.Files.gives c.args.files.now) (g.F.Files.lacks c.args.files.now)) c.args.words.now.project) tt none.1)
]

pub returns-in-Err : goal.returns-in-Err
returns-in-Err g c = inr (refl, (c.in-Err.refusal, c.write.ensures.0, c.in-Err.ensures.refused, c.write.ensures.1, refl, refl, c.write.ensures.2))
