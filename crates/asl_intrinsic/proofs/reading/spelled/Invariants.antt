use Rattle.asl_intrinsic.specs.private.Steps.{heard}
use Rattle.asl_intrinsic.specs.private.Hears.{Hears, waits}
use Rattle.asl_intrinsic.proofs.reading.spelled.Given as goal

abbrev pub invariant-loop-alloc : goal.invariant-loop-alloc
invariant-loop-alloc l = Hears (heard l.text) l.reader

abbrev pub decreases-loop-alloc : goal.decreases-loop-alloc
decreases-loop-alloc l = waits l.reader
