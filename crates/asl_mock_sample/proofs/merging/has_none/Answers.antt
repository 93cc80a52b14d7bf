use Rattle.std.proofs.Common.{arith}
use Rattle.asl_mock_sample.proofs.Some.{has_some}
use Rattle.asl_mock_sample.proofs.merging.has_none.Goals as goal

pub returns-in-len1-up : goal.returns-in-len1-up
returns-in-len1-up c = has_some c.args.members.now (omega arith)
