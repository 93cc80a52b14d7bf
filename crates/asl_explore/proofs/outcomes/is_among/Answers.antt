use Rattle.std.proofs.Common.{arith}
use Rattle.std.proofs.lemmas.List.Elements.{AllWithin-more}
use Rattle.asl_explore.specs.Searches.{outcomes_of}
use Rattle.asl_explore.proofs.Finding.{Other, found-there, other-more, other-all}
use Rattle.asl_explore.proofs.outcomes.is_among.Goals as goal

pub returns-then-eq-clause-there : goal.returns-then-eq-clause-there
returns-then-eq-clause-there c e = found-there c.args.found.now c.loop-one.one-index c.one-item.result c.args.outcome.now c.eq.result c.loop-one-test.true c.one-item.is c.eq.ensures c.if-eq.true

pub loop-one-preserved : goal.loop-one-preserved
loop-one-preserved c = AllWithin-more (Other c.args.outcome.now) (outcomes_of c.args.found.now) 0 c.loop-one.one-index c.loop-one.invariant (other-more c.args.found.now c.loop-one.one-index c.one-item.result c.args.outcome.now c.eq.result c.loop-one-test.true c.one-item.is c.eq.ensures c.if-eq.false)

pub returns-clause-new : goal.returns-clause-new
returns-clause-new c e = other-all c.args.found.now c.loop-one.one-index c.args.outcome.now (omega (arith, c.loop-one-test.false)) c.loop-one.invariant
