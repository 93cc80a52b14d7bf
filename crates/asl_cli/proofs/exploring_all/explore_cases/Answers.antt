use Rattle.asl_cli.specs.ExploringAll.{IsCaseExplored}
use Rattle.asl_cli.proofs.Doing.{goes_first, goes_on, goes_end}
use Rattle.asl_cli.proofs.exploring_all.explore_cases.Goals as goal

pub loop-one-init : goal.loop-one-init
loop-one-init g c =
    goes_first (IsCaseExplored c.args.quiet c.args.words.now c.args.workflow.now c.args.mocks.now) g.F.Files.gives g.F.Files.lacks g.O.Sink.taken g.O.Sink.failures g.E.Sink.taken g.E.Sink.failures
    c.args.files.now c.args.out.now c.args.err.now c.args.chosen.now

pub loop-one-preserved : goal.loop-one-preserved
loop-one-preserved g c =
    goes_on (IsCaseExplored c.args.quiet c.args.words.now c.args.workflow.now c.args.mocks.now) g.F.Files.gives g.F.Files.lacks g.O.Sink.taken g.O.Sink.failures g.E.Sink.taken g.E.Sink.failures
    c.args.files.now c.loop-one.files c.explore_one.new.files c.args.out.now c.loop-one.out c.explore_one.new.out c.args.err.now c.loop-one.err c.explore_one.new.err
    c.loop-one.status c.explore_one.result c.highest-status.result c.args.chosen.now c.loop-one.one-index c.one-item.result
    c.loop-one-test.true c.one-item.is c.loop-one.invariant c.explore_one.ensures c.highest-status.ensures

pub returns : goal.returns
returns g c =
    goes_end (IsCaseExplored c.args.quiet c.args.words.now c.args.workflow.now c.args.mocks.now) g.F.Files.gives g.F.Files.lacks g.O.Sink.taken g.O.Sink.failures g.E.Sink.taken g.E.Sink.failures
    c.args.files.now c.loop-one.files c.args.out.now c.loop-one.out c.args.err.now c.loop-one.err c.loop-one.status c.args.chosen.now
    c.loop-one.one-index c.loop-one-test.false c.loop-one.invariant
