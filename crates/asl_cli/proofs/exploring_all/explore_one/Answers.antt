use Rattle.std.proofs.Common.{subst}
use Rattle.asl_host.specs.Outcomes.{sink_use}
use Rattle.asl_cli.specs.ExploringAll.{IsCaseShown, IsWordsOf}
use Rattle.asl_cli.specs.Streams.{file_system, io}
use Rattle.asl_cli.proofs.exploring_all.explore_one.Goals as goal

pub returns : goal.returns
returns g c = (
  c.words_of-words.result,
  subst (λ n. IsWordsOf c.args.words.now c.args.workflow.now c.args.mocks.now n c.words_of-words.result) c.as_str-chosen.ensures c.words_of-words.ensures,
  subst (λ n. IsCaseShown (file_system (g.F.Files.gives c.args.files.now) (g.F.Files.lacks c.args.files.now))
      (io (sink_use g.O.Sink.taken g.O.Sink.failures c.args.out.now c.explore_case.new.out) (sink_use g.E.Sink.taken g.E.Sink.failures c.args.err.now c.explore_case.new.err) c.explore_case.result)
      c.args.quiet n c.words_of-words.result) c.as_str-chosen.ensures c.explore_case.ensures,
)
