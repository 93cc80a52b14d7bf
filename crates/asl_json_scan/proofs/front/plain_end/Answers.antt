use Rattle.std.proofs.Common.{arith}
use Rattle.asl_json_scan.proofs.Fronts.{plain_more}
use Rattle.asl_json_scan.proofs.front.plain_end.Goals as goal

pub loop-end-preserved : goal.loop-end-preserved
loop-end-preserved c = (plain_more c.args.bytes.now c.loop-end.end (omega arith) c.loop-end.invariant.0 (cc), omega arith)
