-- Files of steps: a line for each, which is a place, one space and a timestamp.
use Rattle.std.specs.Prelude.{◌≡◌, ℕ, List, [], ◌∷◌, ◌++◌, ⊤, codes}
use Rattle.std.specs.Fmt.{decimal}
use Rattle.std.specs.List.{flat_map}
use Rattle.asl_history.specs.Places.{IsPlace, place_text}
use Rattle.asl_time.specs.Timestamp.{IsTimestamp}
use Rattle.asl_time.specs.StampText.{stamp_of}
use Rattle.asl_run_input.specs.declared.step_at.StepAt.{StepAt}
use Rattle.asl_run_input.specs.declared.steps_file.StepsFault.{StepsFault}
use Rattle.asl_run_input.specs.declared.steps_file.StepsFault.TheVariants.{Line, OutOfMemory}
use Rattle.asl_run_input.specs.FileLines.{lines_in, AreSpelled, IsFirstBadLine}

-- the line spells the step
pub record IsStepLine (line : List ℕ) (s : StepAt) : Type 0 where
  pub place_in : IsPlace s.place
  pub stamp : List ℕ
  pub stamp_is : IsTimestamp stamp s.moment
  pub text : line ≡ place_text s.place ++ 32 ∷ stamp

-- the file spells the steps, one in each line
abbrev pub IsStepsFile : List ℕ → List StepAt → Type 0
IsStepsFile bytes ss = AreSpelled IsStepLine (lines_in bytes) ss

-- the line of a step, as `/0 2024-01-01T00:00:00.000Z`
abbrev pub step_line : StepAt → List ℕ
step_line s = place_text s.place ++ (32 ∷ (stamp_of s.moment ++ 10 ∷ []))

-- steps as a file
abbrev pub steps_file : List StepAt → List ℕ
steps_file ss = flat_map step_line ss

-- what a fault says of the file
abbrev pub IsStepsFault : List ℕ → StepsFault → Type 0
IsStepsFault bytes (Line n) = IsFirstBadLine IsStepLine bytes n
IsStepsFault bytes OutOfMemory = ⊤

-- the text of a fault
abbrev pub steps_refusal : StepsFault → List ℕ
steps_refusal (Line n) = codes "E1 StepLine " ++ decimal n
steps_refusal OutOfMemory = codes "OutOfMemory"
