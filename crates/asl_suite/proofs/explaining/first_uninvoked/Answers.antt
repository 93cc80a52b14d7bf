use Rattle.std.proofs.Common.{sym, ◌∙◌}
use Rattle.asl_suite.specs.Cases.{is_invoked}
use Rattle.asl_suite.proofs.Firsts.{passed_over, found}
use Rattle.asl_suite.proofs.explaining.first_uninvoked.Goals as goal

pub loop-count-preserved : goal.loop-count-preserved
loop-count-preserved c =
    passed_over (is_invoked c.args.machine.now c.args.world.now.counts) c.args.wanted.now c.loop-count.count-index c.count-item.result c.loop-count-test.true c.count-item.is (sym c.is_invoked.ensures ∙ c.if-not-is_invoked.false) ∙ c.loop-count.invariant

pub returns-then-not-is_invoked : goal.returns-then-not-is_invoked
returns-then-not-is_invoked c =
    found (is_invoked c.args.machine.now c.args.world.now.counts) c.args.wanted.now c.loop-count.count-index c.count-item.result c.loop-count-test.true c.count-item.is (sym c.is_invoked.ensures ∙ c.if-not-is_invoked.true) ∙ c.loop-count.invariant
