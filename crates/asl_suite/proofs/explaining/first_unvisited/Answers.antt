use Rattle.std.proofs.Common.{sym, ◌∙◌}
use Rattle.asl_suite.specs.Cases.{is_visited}
use Rattle.asl_suite.proofs.Firsts.{passed_over, found}
use Rattle.asl_suite.proofs.explaining.first_unvisited.Goals as goal

pub loop-visit-preserved : goal.loop-visit-preserved
loop-visit-preserved c =
    passed_over (is_visited c.args.events.now) c.args.wanted.now c.loop-visit.visit-index c.visit-item.result c.loop-visit-test.true c.visit-item.is (sym c.is_visited.ensures ∙ c.if-not-is_visited.false) ∙ c.loop-visit.invariant

pub returns-then-not-is_visited : goal.returns-then-not-is_visited
returns-then-not-is_visited c =
    found (is_visited c.args.events.now) c.args.wanted.now c.loop-visit.visit-index c.visit-item.result c.loop-visit-test.true c.visit-item.is (sym c.is_visited.ensures ∙ c.if-not-is_visited.true) ∙ c.loop-visit.invariant
