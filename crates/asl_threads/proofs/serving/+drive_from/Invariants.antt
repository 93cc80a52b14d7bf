use Rattle.std.proofs.Common.{length}
use Rattle.asl_threads.proofs.serving.+drive_from.Given as goal

abbrev pub decreases-drive_from : goal.decreases-drive_from
decreases-drive_from g l = length l.seats.now
