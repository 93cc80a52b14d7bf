use Rattle.std.proofs.Common.{length}
use Rattle.asl_run_branches.proofs.frame.Frame.+stands.Given as goal

abbrev pub decreases-stands : goal.decreases-stands
decreases-stands l = length l.place.now
