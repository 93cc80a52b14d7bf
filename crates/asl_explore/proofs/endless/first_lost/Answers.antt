use Rattle.std.proofs.Common.{◌∙◌, sym, arith}
use Rattle.asl_explore.proofs.Reaching.{before-more}
use Rattle.asl_explore.proofs.endless.first_lost.Goals as goal

pub loop-number-preserved : goal.loop-number-preserved
loop-number-preserved c = before-more c.args.reaching.now.known.items c.loop-number.number c.loop-number.invariant (sym c.is_known.ensures ∙ c.if-not-is_known.false)

pub returns : goal.returns
returns c t i l = c.loop-number.invariant i (omega (arith, l, c.loop-number-test.false))
