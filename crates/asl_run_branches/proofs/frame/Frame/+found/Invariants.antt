use Rattle.std.proofs.Common.{length}
use Rattle.asl_run_branches.proofs.frame.Frame.+found.Given as goal

abbrev pub decreases-found : goal.decreases-found
decreases-found l = length l.place.now
