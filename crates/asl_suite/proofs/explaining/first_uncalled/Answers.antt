use Rattle.std.proofs.Common.{sym, ◌∙◌}
use Rattle.asl_suite.specs.Cases.{is_called}
use Rattle.asl_suite.proofs.Firsts.{passed_over, found}
use Rattle.asl_suite.proofs.explaining.first_uncalled.Goals as goal

pub loop-calls-preserved : goal.loop-calls-preserved
loop-calls-preserved c =
    passed_over (is_called c.args.events.now) c.args.wanted.now c.loop-calls.calls-index c.calls-item.result c.loop-calls-test.true c.calls-item.is (sym c.is_called.ensures ∙ c.if-not-is_called.false) ∙ c.loop-calls.invariant

pub returns-then-not-is_called : goal.returns-then-not-is_called
returns-then-not-is_called c =
    found (is_called c.args.events.now) c.args.wanted.now c.loop-calls.calls-index c.calls-item.result c.loop-calls-test.true c.calls-item.is (sym c.is_called.ensures ∙ c.if-not-is_called.true) ∙ c.loop-calls.invariant
