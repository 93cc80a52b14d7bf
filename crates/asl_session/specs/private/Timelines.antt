-- What always holds of an execution that keeps its steps.
use Rattle.std.specs.Prelude.{◌≡◌, List}
use Rattle.asl_run_state.specs.declared.checkpoint.Checkpoint.{Checkpoint}
use Rattle.asl_run_input.specs.declared.step_at.StepAt.{StepAt}
use Rattle.asl_exec.specs.declared.execution.Execution.{Execution}
use Rattle.asl_exec.specs.Steps.{opening, world_after}
use Rattle.asl_exec.specs.Views.{setup_of, world_of}
use Rattle.asl_session.specs.private.Marks.{AreMarks}

pub record IsTimeline (x : Execution) (steps : List StepAt) (cs : List Checkpoint) : Type 0 where
  -- its world is that of its steps
  pub world : world_of x ≡ world_after (setup_of x) (opening (setup_of x)) steps
  pub marks : AreMarks (setup_of x) steps cs
