use Rattle.std.proofs.Common.{ℕ, List, Option, Some, ◌∙◌, ap, subst, sym}
use Rattle.asl_host.specs.Outcomes.{sink_use}
use Rattle.asl_cli.specs.ExploringAll.{IsExploredBy}
use Rattle.asl_cli.specs.Streams.{file_use, io}
use Rattle.asl_cli.proofs.exploring_all.explore_workflow.Goals as goal

pub returns-in-Some : goal.returns-in-Some
returns-in-Some g c =
    subst (λ (o : Option (List ℕ)). IsExploredBy c.args.quiet c.args.words.now (file_use g.F.Files.gives g.F.Files.lacks c.args.files.now)
    (io (sink_use g.O.Sink.taken g.O.Sink.failures c.args.out.now c.explore_by.new.out) (sink_use g.E.Sink.taken g.E.Sink.failures c.args.err.now c.explore_by.new.err) c.explore_by.result)
    c.args.workflow.now o) (ap Some c.as_str-mocks.ensures ∙ sym c.in-Some.is) c.explore_by.ensures
