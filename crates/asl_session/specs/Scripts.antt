-- Scripts: files of commands, a line for each, and the text of a run by one.
use Rattle.std.specs.Prelude.{◌≡◌, ℕ, Bool, ◌&&◌, nat_le, if◌then◌else◌, List, [], ◌∷◌, ◌++◌, length, ⊤, Option, Some, None, codes}
use Rattle.std.specs.List.{list_all}
use Rattle.std.specs.Fmt.{decimal}
use Rattle.asl_json_data.specs.Data.{text}
use Rattle.asl_json_data.specs.Number.{digits_value}
use Rattle.asl_json_data.specs.Reads.{ReadsAs}
use Rattle.asl_history.specs.Places.{IsPlace, place_text}
use Rattle.asl_run_state.specs.Lines.{end_text}
use Rattle.asl_run_input.specs.declared.setup.Setup.{Setup}
use Rattle.asl_run_input.specs.FileLines.{lines_in, AreSpelled, IsFirstBadLine}
use Rattle.asl_run_input.specs.StepsFile.{IsStepLine}
use Rattle.asl_session.specs.Sessions.{Session, begun_at, opened, world_in, reply_to, next_session, session_after}
use Rattle.asl_session.specs.ReplyLines.{answer_line}
use Rattle.asl_session.specs.declared.command.Command.{Command}
use Rattle.asl_session.specs.declared.command.Command.TheVariants.{Step, Break, Clear, Resume, Show, Back}
use Rattle.asl_session.specs.declared.script_file.ScriptFault.{ScriptFault}
use Rattle.asl_session.specs.declared.script_file.ScriptFault.TheVariants.{Line, OutOfMemory}

-- ---- a line

-- the name as a JSON text, with no space round it
pub record IsNamed (t n : List ℕ) : Type 0 where
  pub reads : ReadsAs t (text n)
  pub inner : List ℕ
  pub quoted : t ≡ 34 ∷ (inner ++ 34 ∷ [])

pub record IsPlaceText (t p : List ℕ) : Type 0 where
  pub place_in : IsPlace p
  pub text_is : t ≡ place_text p

abbrev pub is_digit : ℕ → Bool
is_digit c = nat_le 48 c && nat_le c 57

-- the number that 1 to 9 digits spell
abbrev pub count_in : List ℕ → Option ℕ
count_in t =
    if nat_le 1 (length t) && nat_le (length t) 9 && list_all is_digit t
    then Some (digits_value 0 t) else None

-- a word with a space, and what stands behind it
pub record IsBehind (word : List ℕ) (P : List ℕ → Type 0) (line : List ℕ) : Type 0 where
  pub rest : List ℕ
  pub line_is : line ≡ word ++ rest
  pub rest_is : P rest

-- the line spells the command
abbrev pub IsCommandLine : List ℕ → Command → Type 0
IsCommandLine line (Step a) = IsBehind (codes "step ") (λ t. IsStepLine t a) line
IsCommandLine line (Break n) = IsBehind (codes "break ") (λ t. IsNamed t n) line
IsCommandLine line (Clear n) = IsBehind (codes "clear ") (λ t. IsNamed t n) line
IsCommandLine line (Resume p) = IsBehind (codes "resume ") (λ t. IsPlaceText t p) line
IsCommandLine line (Show p) = IsBehind (codes "show ") (λ t. IsPlaceText t p) line
IsCommandLine line (Back n) = IsBehind (codes "back ") (λ t. count_in t ≡ Some n) line

-- ---- a file

-- the file spells the commands, one in each line
abbrev pub IsScript : List ℕ → List Command → Type 0
IsScript bytes cs = AreSpelled IsCommandLine (lines_in bytes) cs

abbrev pub IsScriptFault : List ℕ → ScriptFault → Type 0
IsScriptFault bytes (Line n) = IsFirstBadLine IsCommandLine bytes n
IsScriptFault bytes OutOfMemory = ⊤

-- the text of a fault
abbrev pub script_refusal : ScriptFault → List ℕ
script_refusal (Line n) = codes "script: E2 ScriptLine " ++ decimal n
script_refusal OutOfMemory = codes "OutOfMemory"

-- ---- its run

-- the moment of the first step among these commands, if there is one
abbrev pub start_among : ℕ → List Command → ℕ
start_among start [] = start
start_among start (Step a ∷ cs) = a.moment
start_among start (Break n ∷ cs) = start_among start cs
start_among start (Clear n ∷ cs) = start_among start cs
start_among start (Resume p ∷ cs) = start_among start cs
start_among start (Show p ∷ cs) = start_among start cs
start_among start (Back n ∷ cs) = start_among start cs

-- the execution starts at that moment; without a step the setup's stays
abbrev pub started : Setup → List Command → Setup
started s cs = begun_at (start_among s.start cs) s

-- a line for the reply to each command
abbrev pub answer_lines : Session → List Command → List ℕ
answer_lines s [] = []
answer_lines s (c ∷ cs) = answer_line (reply_to s c) ++ answer_lines (next_session s c) cs

-- the lines of the replies, the history, and the status
abbrev pub script_text : Setup → List Command → List ℕ
script_text setup cs =
    answer_lines (opened (started setup cs)) cs
    ++ end_text (world_in (session_after (opened (started setup cs)) cs))

-- the text is that of a run by the script
pub record IsScriptRun (setup : Setup) (bytes text : List ℕ) : Type 0 where
  pub commands : List Command
  pub script : IsScript bytes commands
  pub text_is : text ≡ script_text setup commands
