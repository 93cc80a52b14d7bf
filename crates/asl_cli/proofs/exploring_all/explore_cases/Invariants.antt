use Rattle.std.proofs.Common.{drop}
use Rattle.asl_cli.specs.ExploringAll.{IsCaseExplored}
use Rattle.asl_cli.proofs.Doing.{GoesOn}
use Rattle.asl_cli.proofs.exploring_all.explore_cases.Given as goal

abbrev pub invariant-loop-one : goal.invariant-loop-one
invariant-loop-one g l =
    GoesOn (IsCaseExplored l.quiet l.words l.workflow l.mocks) g.F.Files.gives g.F.Files.lacks g.O.Sink.taken g.O.Sink.failures g.E.Sink.taken g.E.Sink.failures
    l.fn.files l.files l.fn.out l.out l.fn.err l.err l.status l.chosen (drop l.one-index l.chosen)
