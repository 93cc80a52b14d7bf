-- The text of a run: a line for each listed step, the history, and a line for the outcome.
use Rattle.std.specs.Prelude.{ℕ, List, [], ◌∷◌, ◌++◌, Option, Some, None}
use Rattle.asl_run_state.specs.World.{World}
use Rattle.asl_run_state.specs.Lines.{step_line, end_text}
use Rattle.asl_run_input.specs.declared.setup.Setup.{Setup}
use Rattle.asl_run_input.specs.declared.step_at.StepAt.{StepAt}
use Rattle.asl_exec.specs.Steps.{refusal_in, step, opening, world_after}
use Rattle.asl_exec.specs.Driving.{driven}

-- a line for each of these steps
abbrev pub step_lines : Setup → World → List StepAt → List ℕ
step_lines s w [] = []
step_lines s w (a ∷ left) =
    step_line a.place (refusal_in s w a.place a.moment)
    ++ step_lines s (step s w a.place a.moment) left

-- the text of the run of these steps
abbrev pub run_text : Setup → List StepAt → List ℕ
run_text s all = step_lines s (opening s) all ++ end_text (world_after s (opening s) all)

-- ---- by a list of steps, or by those that come next

-- the lines of the steps; those that come next have none
abbrev pub lines_by : Setup → World → Option (List StepAt) → List ℕ
lines_by s w None = []
lines_by s w (Some ss) = step_lines s w ss

-- the world after the steps that are listed; where there is no list, after those that come next, at
-- most so many
abbrev pub world_by : ℕ → Setup → World → Option (List StepAt) → World
world_by limit s w None = driven limit s w
world_by limit s w (Some ss) = world_after s w ss

-- the text of such a run
abbrev pub text_by : ℕ → Setup → Option (List StepAt) → List ℕ
text_by limit s ss =
    lines_by s (opening s) ss ++ end_text (world_by limit s (opening s) ss)
