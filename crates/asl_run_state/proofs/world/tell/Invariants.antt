use Rattle.std.proofs.Common.{◌≡◌, ◌≤◌}
use Rattle.std.specs.Vec.Iter.{into_iter_items, into_iter_len}
use Rattle.asl_history.specs.Events.{previous_id, IsHistory}
use Rattle.asl_run_state.specs.private.Telling.{AllAt, told_after}
use Rattle.asl_run_state.proofs.world.tell.Given as goal

abbrev pub invariant-loop-at : goal.invariant-loop-at
invariant-loop-at l = record {
  told : told_after l.moment (into_iter_items l.at-iterator) l.history.events ≡ told_after l.moment l.fn.told.items l.fn.history.events;
  room : into_iter_len l.at-iterator ≤ l.history.spare;
  at : AllAt l.place (into_iter_items l.at-iterator);
  linked : IsHistory l.history.events;
  link : l.previous ≡ previous_id l.place l.history.events;
}
