use Rattle.std.proofs.Common.{length}
use Rattle.asl_trace.proofs.stopping.+put_stopped_below.Given as goal

abbrev pub decreases-put_stopped_below : goal.decreases-put_stopped_below
decreases-put_stopped_below l = length l.place.now
