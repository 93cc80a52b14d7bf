-- What is kept of a world, and what it says of an execution that has gone on.
use Rattle.std.specs.Prelude.{ℕ, ◌≡◌, List, length, take}
use Rattle.asl_history.specs.declared.event.Event.{Event}
use Rattle.asl_run_branches.specs.Trees.{branches_of, nodes_of}
use Rattle.asl_run_state.specs.World.{World}
use Rattle.asl_run_state.specs.private.Sound.{IsSound}
use Rattle.asl_run_state.specs.declared.checkpoint.Checkpoint.{Checkpoint}

-- the world of a checkpoint, with the first so many of these events
abbrev pub world_at : Checkpoint → List Event → World
world_at c es = record {
  branches = branches_of c.root;
  counts = c.counts.items;
  events = take c.told es;
  last = c.last;
  deadline = c.deadline;
  outcome = c.outcome;
}

-- the checkpoint is of this world
pub record IsCheckpointOf (c : Checkpoint) (w : World) : Type 0 where
  pub shows : world_at c w.events ≡ w
  pub told : c.told ≡ length w.events
  -- what always holds of a world
  pub sound : IsSound (nodes_of c.root) c.counts.items w.events c.outcome
