use Rattle.std.proofs.Common.{◌≡◌, length}
use Rattle.asl_history.specs.Events.{previous_id, IsHistory}
use Rattle.asl_history.proofs.history.previous_id.Given as goal

abbrev pub invariant-loop-last : goal.invariant-loop-last
invariant-loop-last l = IsHistory l.rest × (previous_id l.place l.rest ≡ previous_id l.place l.fn.events)

abbrev pub decreases-loop-last : goal.decreases-loop-last
decreases-loop-last l = length l.rest
