use Rattle.std.proofs.Common.{arith}
use Rattle.asl_explore.proofs.Resting.{by-more, none-waits}
use Rattle.asl_explore.proofs.late.waits.Goals as goal

pub loop-index-preserved : goal.loop-index-preserved
loop-index-preserved c =
    by-more c.millis-last.result c.in-Some.turns.items c.loop-index.index c.index.result.now (omega (arith, c.in-Some.turns.ok.0, c.loop-index-test.true, c.len-index-end.ensures)) c.index.ensures (omega (arith, c.if-last-moment.false, c.millis-moment.ensures)) c.loop-index.invariant

pub returns : goal.returns
returns c t z =
    none-waits c.args.world.now c.in-Some.turns.items c.loop-index.index c.millis-last.result (rw c.in-Some.is at c.in_ok-turns.ensures.turns) (omega (arith, c.in-Some.turns.ok.0, c.loop-index-test.false, c.len-index-end.ensures)) (omega (arith, c.millis-last.ensures, c.last.ensures)) c.loop-index.invariant z
