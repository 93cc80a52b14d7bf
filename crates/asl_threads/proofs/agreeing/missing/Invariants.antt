use Rattle.asl_threads.specs.Closing.{AreAllThere}
use Rattle.asl_threads.proofs.agreeing.missing.Given as goal

abbrev pub invariant-loop-number : goal.invariant-loop-number
invariant-loop-number l = AreAllThere l.number l.seats
