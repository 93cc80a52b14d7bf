use Rattle.asl_step_reads.proofs.Leading.{none_left}
use Rattle.asl_step_reads.proofs.mentions.behind.Goals as goal

pub returns-in_default : goal.returns-in_default
returns-in_default c = none_left c.args.key.now c.loop-byte.rest.now c.args.bytes.now c.loop-byte.byte-index c.loop-byte-test.true c.in_default.ensures.cases c.loop-byte.invariant
