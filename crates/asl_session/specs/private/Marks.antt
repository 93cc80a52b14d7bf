-- Which checkpoints are kept.
use Rattle.std.specs.Prelude.{ℕ, ◌≡◌, ◌≤◌, ◌*◌, List, length, take, slice_get, Some}
use Rattle.asl_run_state.specs.World.{World}
use Rattle.asl_run_state.specs.Checkpoints.{IsCheckpointOf}
use Rattle.asl_run_state.specs.declared.checkpoint.Checkpoint.{Checkpoint}
use Rattle.asl_run_input.specs.declared.setup.Setup.{Setup}
use Rattle.asl_run_input.specs.declared.step_at.StepAt.{StepAt}
use Rattle.asl_exec.specs.Steps.{opening, world_after}

-- an execution as contracts see it that keeps its steps
pub record Course : Type 0 where
  pub setup : Setup
  pub steps : List StepAt

-- its world
abbrev pub course_world : Course → World
course_world c = world_after c.setup (opening c.setup) c.steps

-- the checkpoint is of the world behind the first so many of these steps
pub record IsMark (s : Setup) (steps : List StepAt) (n : ℕ) (c : Checkpoint) : Type 0 where
  pub within : n ≤ length steps
  pub marks : IsCheckpointOf c (world_after s (opening s) (take n steps))

-- the checkpoints are of every 64th world, and each step has one at most 63 steps before it
pub record AreMarks (s : Setup) (steps : List StepAt) (cs : List Checkpoint) : Type 0 where
  pub cover : length steps ≤ 64 * length cs
  pub each : (i : ℕ) (c : Checkpoint) → slice_get cs i ≡ Some c → IsMark s steps (64 * i) c
