use Rattle.asl_cli.specs.Projects.{IsWorkflowLinted}
use Rattle.asl_cli.proofs.Doing.{goes_first, goes_on, goes_end}
use Rattle.asl_cli.proofs.projects.lint_each.Goals as goal

pub loop-workflow-init : goal.loop-workflow-init
loop-workflow-init g c =
    goes_first (IsWorkflowLinted c.args.quiet c.args.words.now c.args.lists.now) g.F.Files.gives g.F.Files.lacks g.O.Sink.taken g.O.Sink.failures g.E.Sink.taken g.E.Sink.failures
    c.args.files.now c.args.out.now c.args.err.now c.args.workflows.now

pub loop-workflow-preserved : goal.loop-workflow-preserved
loop-workflow-preserved g c =
    goes_on (IsWorkflowLinted c.args.quiet c.args.words.now c.args.lists.now) g.F.Files.gives g.F.Files.lacks g.O.Sink.taken g.O.Sink.failures g.E.Sink.taken g.E.Sink.failures
    c.args.files.now c.loop-workflow.files c.lint_one.new.files c.args.out.now c.loop-workflow.out c.lint_one.new.out c.args.err.now c.loop-workflow.err c.lint_one.new.err
    c.loop-workflow.status c.lint_one.result c.highest-status.result c.args.workflows.now c.loop-workflow.workflow-index c.workflow-item.result
    c.loop-workflow-test.true c.workflow-item.is c.loop-workflow.invariant c.lint_one.ensures c.highest-status.ensures

pub returns : goal.returns
returns g c =
    goes_end (IsWorkflowLinted c.args.quiet c.args.words.now c.args.lists.now) g.F.Files.gives g.F.Files.lacks g.O.Sink.taken g.O.Sink.failures g.E.Sink.taken g.E.Sink.failures
    c.args.files.now c.loop-workflow.files c.args.out.now c.loop-workflow.out c.args.err.now c.loop-workflow.err c.loop-workflow.status c.args.workflows.now
    c.loop-workflow.workflow-index c.loop-workflow-test.false c.loop-workflow.invariant
