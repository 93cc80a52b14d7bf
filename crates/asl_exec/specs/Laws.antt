-- Laws of runs: over all texts, and over all lists of steps.
use Rattle.std.specs.Prelude.{◌≡◌, ◌++◌, List, ℕ, Bool}
use Rattle.asl_run_input.specs.declared.fault.EmulateFault.{EmulateFault}
use Rattle.asl_run_input.specs.declared.setup.Setup.{Setup}
use Rattle.asl_run_input.specs.declared.step_at.StepAt.{StepAt}
use Rattle.asl_run_input.specs.Emulations.{Texts, IsRefused}
use Rattle.asl_history.specs.declared.event.Event.{Event}
use Rattle.asl_run_state.specs.World.{World}
use Rattle.asl_run_state.specs.Checkpoints.{world_at, IsCheckpointOf}
use Rattle.asl_run_state.specs.declared.checkpoint.Checkpoint.{Checkpoint}
use Rattle.asl_exec.specs.Emulations.{IsRunOf}
use Rattle.asl_exec.specs.Steps.{world_after}

-- texts have at most one run
abbrev pub OneRun : Type 0
OneRun =
    (t : Texts) (limit : ℕ) (text other : List ℕ) (good well : Bool) → IsRunOf t limit text good
    → IsRunOf t limit other well → (text ≡ other) × (good ≡ well)

-- texts that have a run aren't refused
abbrev pub RunIsNotRefused : Type 0
RunIsNotRefused =
    (t : Texts) (limit : ℕ) (text : List ℕ) (good : Bool) (f : EmulateFault)
    → IsRunOf t limit text good → IsRefused t f → ⊥

-- the events of a world stay as they are, whatever steps are taken: more come behind them
abbrev pub StepsAppendEvents : Type 0
StepsAppendEvents =
    (s : Setup) (w : World) (l : List StepAt)
    → (more : List Event) × ((world_after s w l).events ≡ w.events ++ more)

-- a checkpoint of a world shows this world also among the events that came later
abbrev pub CheckpointsStay : Type 0
CheckpointsStay =
    (s : Setup) (w : World) (l : List StepAt) (c : Checkpoint) → IsCheckpointOf c w
    → (world_at c (world_after s w l).events ≡ w)
    × IsCheckpointOf c (world_at c (world_after s w l).events)
