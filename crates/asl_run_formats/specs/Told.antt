-- What a run prints in a format.
use Rattle.std.specs.Prelude.{◌≡◌, List, ℕ, Bool, Option}
use Rattle.asl_run_input.specs.declared.setup.Setup.{Setup}
use Rattle.asl_run_input.specs.declared.step_at.StepAt.{StepAt}
use Rattle.asl_run_input.specs.Emulations.{Texts, Accepts}
use Rattle.asl_run_state.specs.World.{World}
use Rattle.asl_run_state.specs.Lines.{is_success}
use Rattle.asl_exec.specs.RunText.{world_by}
use Rattle.asl_exec.specs.Steps.{opening}
use Rattle.asl_history_formats.specs.JsonLines.{json_lines_text}
use Rattle.asl_history_formats.specs.Aws.{aws_text}
use Rattle.asl_run_formats.specs.declared.format.Format.{Format}
use Rattle.asl_run_formats.specs.declared.format.Format.TheVariants.{Json, Aws, Steps, Tree, Data}
use Rattle.asl_run_input.specs.StepsFile.{steps_file}
use Rattle.asl_trace.specs.declared.tree.Shows.TheVariants.{Changes, Stages}
use Rattle.asl_run_formats.specs.Taken.{taken_by}
use Rattle.asl_run_formats.specs.Trees.{tree_text}
use Rattle.asl_run_formats.specs.Invoked.{region_of, tasks_in}

-- what is printed of an execution that began with this, and took these steps from the world w to the
-- world u
abbrev pub told : Format → Setup → World → List StepAt → World → List ℕ
told Json s w ss u = json_lines_text u.events
told (Aws region) s w ss u = aws_text (tasks_in (region_of region) s.machine) u.events
told Steps s w ss u = steps_file ss
told Tree s w ss u = tree_text Changes s w ss u
told Data s w ss u = tree_text Stages s w ss u

-- the text is what the run that the texts spell prints, and says whether the execution has succeeded
-- then; where no file names steps, those that come next are taken, at most so many
pub record IsToldRunOf (format : Format) (t : Texts) (limit : ℕ) (text : List ℕ) (good : Bool)
    : Type 0 where
  pub setup : Setup
  pub steps : Option (List StepAt)
  pub accepted : Accepts t setup steps
  pub text_is : text ≡ told format setup (opening setup)
      (taken_by limit setup (opening setup) steps) (world_by limit setup (opening setup) steps)
  pub good_is : good ≡ is_success (world_by limit setup (opening setup) steps).outcome
