-- Laws of definitions in the newer spelling, and of their runs.
use Rattle.std.specs.Prelude.{◌≡◌, ◌≤◌, ℕ, List, length}
use Rattle.asl_json_data.specs.Data.{Data}
use Rattle.asl_json_data.specs.Compact.{compact}
use Rattle.asl_json_data.specs.Limits.{max_len}
use Rattle.asl_def_schema.specs.Canon.{canonical}
use Rattle.asl_def_schema.specs.Faults.{Accepted}
use Rattle.asl_def.specs.Upgraded.{upgraded}
use Rattle.asl_check.specs.Judged.{IsMachineOf}
use Rattle.asl_run_state.specs.World.{World}
use Rattle.asl_run_input.specs.declared.setup.Setup.{Setup}
use Rattle.asl_run_input.specs.declared.step_at.StepAt.{StepAt}
use Rattle.asl_exec.specs.Steps.{refusal_in, step, opening, world_after}
use Rattle.asl_exec.specs.RunText.{run_text}
use Rattle.asl_exec.specs.Driving.{driven, driven_steps}

-- ---- definitions

-- to upgrade twice is to upgrade once
abbrev pub UpgradedStays : Type 0
UpgradedStays = (d : Data) → upgraded (upgraded d) ≡ upgraded d

-- a definition without faults has none
abbrev pub UpgradedIsAccepted : Type 0
UpgradedIsAccepted = (d : Data) → Accepted d → Accepted (upgraded d)

-- what is put in order first, or upgraded first, is the same
abbrev pub UpgradedIsCanonical : Type 0
UpgradedIsCanonical = (d : Data) → Accepted d → canonical (upgraded d) ≡ upgraded (canonical d)

-- what is printed of a machine in the newer spelling is accepted as that machine, unless it is too
-- long to be read (it is no deeper)
abbrev pub UpgradedIsRead : Type 0
UpgradedIsRead =
    (b : List ℕ) (m : Data) → IsMachineOf b m → length (compact (upgraded m)) ≤ max_len
    → IsMachineOf (compact (upgraded m)) (upgraded m)

-- ---- runs

-- the same setup with the machine in the newer spelling
abbrev pub upgraded_setup : Setup → Setup
upgraded_setup s = record s { machine = upgraded s.machine }

-- a step of it has the same reply, and leaves the same world
pub record StepsAlike (s : Setup) (w : World) (p : List ℕ) (t : ℕ) : Type 0 where
  pub reply : refusal_in (upgraded_setup s) w p t ≡ refusal_in s w p t
  pub world : step (upgraded_setup s) w p t ≡ step s w p t

-- so does every list of steps, and the text of their run is the same
pub record RunsAlike (s : Setup) (l : List StepAt) : Type 0 where
  pub world : world_after (upgraded_setup s) (opening (upgraded_setup s)) l
      ≡ world_after s (opening s) l
  pub text : run_text (upgraded_setup s) l ≡ run_text s l

-- and so does every driven run
pub record DrivesAlike (n : ℕ) (s : Setup) : Type 0 where
  pub world : driven n (upgraded_setup s) (opening (upgraded_setup s)) ≡ driven n s (opening s)
  pub steps : driven_steps n (upgraded_setup s) (opening (upgraded_setup s))
      ≡ driven_steps n s (opening s)

abbrev pub UpgradedStepsAlike : Type 0
UpgradedStepsAlike =
    (s : Setup) (w : World) (p : List ℕ) (t : ℕ) → Accepted s.machine → StepsAlike s w p t

abbrev pub UpgradedRunsAlike : Type 0
UpgradedRunsAlike = (s : Setup) (l : List StepAt) → Accepted s.machine → RunsAlike s l

abbrev pub UpgradedDrivesAlike : Type 0
UpgradedDrivesAlike = (n : ℕ) (s : Setup) → Accepted s.machine → DrivesAlike n s
