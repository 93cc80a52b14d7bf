use Rattle.std.proofs.Common.{rules, arith, ap, length}
use Rattle.asl_intrinsic.proofs.Stretches.{led_more}
use Rattle.asl_intrinsic.proofs.front.skip_spaces.Goals as goal

pub loop-behind-preserved : goal.loop-behind-preserved
loop-behind-preserved c = (led_more c.args.text.now c.loop-behind.rest.now c.in-Some.behind.now c.loop-behind.invariant.0 c.in-Some.ensures.found, omega (arith, c.loop-behind.invariant.1, ap length c.in-Some.ensures.found), search rules)
