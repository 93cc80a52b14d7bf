use Rattle.std.proofs.Common.{arith}
use Rattle.asl_intrinsic.specs.Grammar.{is_name_byte}
use Rattle.asl_path.proofs.Stretch.{each_more}
use Rattle.asl_intrinsic.proofs.front.name_len.Goals as goal

pub loop-end-preserved : goal.loop-end-preserved
loop-end-preserved c = (each_more is_name_byte c.args.bytes.now c.loop-end.end c.loop-end-test.true c.loop-end.invariant.0 (cc), omega arith)
