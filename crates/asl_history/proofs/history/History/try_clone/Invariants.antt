use Rattle.std.proofs.Common.{◌≡◌, take}
use Rattle.asl_history.proofs.history.History.try_clone.Given as goal

abbrev pub invariant-loop-event : goal.invariant-loop-event
invariant-loop-event l = l.events.items ≡ take l.event-index l.event-items
