use Rattle.std.proofs.Common.{false}
use Rattle.asl_base_protocol.proofs.Ends.{last_is}
use Rattle.asl_base_protocol.proofs.header.ends_with_cr.Goals as goal

pub returns-in-len1-up : goal.returns-in-len1-up
returns-in-len1-up c = last_is false c.args.bytes.now c.in-len1-up.len_at_least
