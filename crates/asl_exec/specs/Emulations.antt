-- What an emulation answers, by its texts alone.
use Rattle.std.specs.Prelude.{◌≡◌, List, ℕ, Bool, Option}
use Rattle.asl_run_input.specs.declared.setup.Setup.{Setup}
use Rattle.asl_run_input.specs.declared.step_at.StepAt.{StepAt}
use Rattle.asl_run_input.specs.Emulations.{Texts, Accepts}
use Rattle.asl_run_state.specs.Lines.{is_success}
use Rattle.asl_exec.specs.declared.driving.Ended.{Ended as End}
use Rattle.asl_exec.specs.Driving.{end_of}
use Rattle.asl_exec.specs.RunText.{world_by, text_by}
use Rattle.asl_exec.specs.Steps.{opening}

-- the text is that of the run that the texts spell, and says whether the execution has succeeded
-- then; where no file names steps, those that come next are taken, at most so many
pub record IsRunOf (t : Texts) (limit : ℕ) (text : List ℕ) (good : Bool) : Type 0 where
  pub setup : Setup
  pub steps : Option (List StepAt)
  pub accepted : Accepts t setup steps
  pub text_is : text ≡ text_by limit setup steps
  pub good_is : good ≡ is_success (world_by limit setup (opening setup) steps).outcome

-- the run ends so
pub record IsEndIn (t : Texts) (limit : ℕ) (end : End) : Type 0 where
  pub setup : Setup
  pub steps : Option (List StepAt)
  pub accepted : Accepts t setup steps
  pub end_is : end ≡ end_of (world_by limit setup (opening setup) steps)
