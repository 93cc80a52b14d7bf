use Rattle.std.proofs.Common.{arith}
use Rattle.asl_mock.proofs.Spots.{gap_there}
use Rattle.asl_mock.proofs.ranges.spot.Goals as goal

pub returns-then-answers-begun-clause-free : goal.returns-then-answers-begun-clause-free
returns-then-answers-begun-clause-free c = gap_there c.args.span c.args.answers.now c.begun-begun.result c.requires c.begun-begun.ensures.within c.begun-begun.ensures.above c.index-answers-begun.result (omega (arith, c.if-begun-eq0.false)) c.if-answers-begun.true
