use Rattle.std.proofs.Common.{length}
use Rattle.asl_history.proofs.Steps.{AreRead}
use Rattle.asl_history.proofs.place.read_steps.Given as goal

abbrev pub invariant-loop-rest : goal.invariant-loop-rest
invariant-loop-rest l = AreRead l.fn.bytes l.numbers.items l.rest

abbrev pub decreases-loop-rest : goal.decreases-loop-rest
decreases-loop-rest l = length l.rest
