use Rattle.std.proofs.Common.{length}
use Rattle.asl_run_branches.proofs.frame.Frame.+forks.Given as goal

abbrev pub decreases-forks : goal.decreases-forks
decreases-forks l = length l.place.now
