use Rattle.std.proofs.Common.{length}
use Rattle.asl_run_branches.proofs.frame.Frame.+crowds.Given as goal

abbrev pub decreases-crowds : goal.decreases-crowds
decreases-crowds l = length l.place.now
