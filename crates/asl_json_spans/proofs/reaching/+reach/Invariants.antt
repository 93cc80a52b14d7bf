use Rattle.std.proofs.Common.{length}
use Rattle.asl_json_spans.proofs.reaching.+reach.Given as goal

abbrev pub decreases-reach : goal.decreases-reach
decreases-reach l = length l.place.now
