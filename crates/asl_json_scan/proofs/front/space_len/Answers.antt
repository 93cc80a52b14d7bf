use Rattle.std.proofs.Common.{arith}
use Rattle.asl_json_scan.proofs.Fronts.{spaces_more}
use Rattle.asl_json_scan.proofs.front.space_len.Goals as goal

pub loop-end-preserved : goal.loop-end-preserved
loop-end-preserved c = (spaces_more c.args.bytes.now c.loop-end.end c.loop-end-test.true c.loop-end.invariant.0 (cc), omega arith)
