-- What the command `run` prints and tells.
use Rattle.std.specs.Prelude.{ℕ, Bool, List, Option, option_map, unwrap_or}
use Rattle.asl_run_input.specs.Emulations.{Texts}
use Rattle.asl_exec.specs.Driving.{most_steps}
use Rattle.asl_words.specs.declared.words.RunWords.{RunWords}
use Rattle.asl_cli.specs.Formats.{format_of, IsRunIn}
use Rattle.asl_cli.specs.Noting.{IsNoteOf}
use Rattle.asl_cli.specs.Faults.{IsGiven}
use Rattle.asl_cli.specs.Beginnings.{IsBeginning, by_steps}

-- the name of the file of steps, where there is one
abbrev pub steps_name : RunWords → Option (List ℕ)
steps_name w = option_map (λ name. name.now) w.steps

-- at most so many steps are taken where nothing names them
abbrev pub most_of : RunWords → ℕ
most_of w = unwrap_or w.most_steps most_steps

-- the run of these texts that the words ask for prints this text in the format that they ask for, and is good or not; this is
-- told of an answer that it lacked, of why it isn't over, and of why it failed
pub record IsToldRun (t : Texts) (w : RunWords) (text : List ℕ) (good : Bool) (note : List ℕ) : Type 0 where
  pub is_run : IsRunIn (format_of w.format) w.coloured t (most_of w) text good
  pub note_is : IsNoteOf t (most_of w) good note

-- the same of what begins so, with the steps of the file that the words name, where they name one
abbrev pub IsEmulatedFrom : (List ℕ → List ℕ → Type 0) → Texts → RunWords → List ℕ → Bool → List ℕ → Type 0
IsEmulatedFrom gives own w text good note =
    (steps : Option (List ℕ)) × IsGiven gives (steps_name w) steps × IsToldRun (by_steps own steps) w text good note

-- the same of what the files may give
abbrev pub IsEmulated : (List ℕ → List ℕ → Type 0) → RunWords → List ℕ → Bool → List ℕ → Type 0
IsEmulated gives w text good note =
    (own : Texts) × IsBeginning gives w.begin own × IsEmulatedFrom gives own w text good note
