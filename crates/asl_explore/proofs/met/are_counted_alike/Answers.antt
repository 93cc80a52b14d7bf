use Rattle.std.proofs.Common.{◌≡◌, arith}
use Rattle.std.specs.Prelude.{slice_index}
use Rattle.asl_explore.proofs.Comparing.{counted-more}
use Rattle.asl_explore.proofs.met.are_counted_alike.Goals as goal

pub loop-number-preserved : goal.loop-number-preserved
loop-number-preserved c =
    let n = c.loop-number.number in
    let here : slice_index c.args.one.now.counts n ≡ slice_index c.args.other.now.counts n = omega (arith, c.count-here.ensures, c.count-there.ensures, c.if-here-there.false) in
    counted-more c.args.one.now.counts c.args.other.now.counts n here c.loop-number.invariant

pub returns : goal.returns
returns c t k l = c.loop-number.invariant k (omega (arith, l, c.loop-number-test.false, c.loop-number.auto.number-end))
