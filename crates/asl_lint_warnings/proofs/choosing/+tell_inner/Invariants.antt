use Rattle.std.proofs.Common.{length}
use Rattle.asl_lint_warnings.proofs.choosing.+tell_inner.Given as goal

abbrev pub decreases-tell_inner : goal.decreases-tell_inner
decreases-tell_inner l = length l.place.now
