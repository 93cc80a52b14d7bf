use Rattle.std.proofs.Common.{◌≡◌, ◌≤◌, ◌+◌, take, length}
use Rattle.asl_run_state.proofs.rewinding.beginning.Given as goal

-- the first so many are there, with room for the others
abbrev pub invariant-loop-event : goal.invariant-loop-event
invariant-loop-event l = record {
  copied : l.first.events ≡ take l.event-index l.event-items;
  room : length l.event-items ≤ l.event-index + l.first.spare;
}
