use Rattle.std.proofs.Common.{length}
use Rattle.asl_run_branches.proofs.frame.Frame.+iterates.Given as goal

abbrev pub decreases-iterates : goal.decreases-iterates
decreases-iterates l = length l.place.now
