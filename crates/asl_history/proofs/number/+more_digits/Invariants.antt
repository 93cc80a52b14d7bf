use Rattle.std.proofs.Common.{length}
use Rattle.asl_history.proofs.number.+more_digits.Given as goal

abbrev pub decreases-more_digits : goal.decreases-more_digits
decreases-more_digits l = length l.bytes.now
