use Rattle.std.proofs.Common.{drop}
use Rattle.asl_cli.specs.Projects.{IsWorkflowLinted}
use Rattle.asl_cli.proofs.Doing.{GoesOn}
use Rattle.asl_cli.proofs.projects.lint_each.Given as goal

abbrev pub invariant-loop-workflow : goal.invariant-loop-workflow
invariant-loop-workflow g l =
    GoesOn (IsWorkflowLinted l.quiet l.words l.lists) g.F.Files.gives g.F.Files.lacks g.O.Sink.taken g.O.Sink.failures g.E.Sink.taken g.E.Sink.failures
    l.fn.files l.files l.fn.out l.out l.fn.err l.err l.status l.workflows (drop l.workflow-index l.workflows)
