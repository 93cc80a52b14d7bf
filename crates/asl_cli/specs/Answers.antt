-- What the commands do: what they write to their two sinks, and the status that they end with.
use Rattle.std.specs.Prelude.{ℕ, Bool, true, false, List, [], ◌∷◌, ◌++◌, ◌≡◌, ◌⊎◌, Option, Some, None, codes, string_bytes}
use Rattle.asl_run_input.specs.declared.setup.Setup.{Setup}
use Rattle.asl_session_repl.specs.declared.telling.Look.{Look}
use Rattle.asl_session_repl.specs.declared.telling.Look.TheVariants.{Transcript, Tree, Colours}
use Rattle.asl_session_repl.specs.Answers.{first_console}
use Rattle.asl_cli.specs.declared.fault.CommandFault.{CommandFault}
use Rattle.asl_command_line.specs.declared.answers.Answer.{Answer}
use Rattle.asl_command_line.specs.declared.answers.Answer.TheVariants as answer
use Rattle.asl_words.specs.declared.words.DefinitionWords.{DefinitionWords}
use Rattle.asl_words.specs.declared.words.PrintWords.{PrintWords}
use Rattle.asl_words.specs.declared.words.Begin.{Begin}
use Rattle.asl_words.specs.declared.words.RunWords.{RunWords}
use Rattle.asl_words.specs.declared.words.DebugFormat.{DebugFormat}
use Rattle.asl_words.specs.declared.words.DebugFormat.TheVariants as format
use Rattle.asl_words.specs.declared.words.DebugWords.{DebugWords}
use Rattle.asl_host.specs.Outcomes.{status_of, fault_line, IsUntouched, IsTold}
use Rattle.asl_cli.specs.Faults.{IsJudged, IsForm, IsNewerForm, IsDefinitionReason, Tells}
use Rattle.asl_cli.specs.Beginnings.{IsRunReason, IsBegun, IsSetupReason}
use Rattle.asl_cli.specs.Running.{steps_name, IsEmulated}
use Rattle.asl_cli.specs.Debugging.{script_name, IsDebugText, IsDebugReason}
use Rattle.asl_cli.specs.Streams.{FileSystem, InputUse, Io, Prints, unless_quiet}
use Rattle.asl_cli.specs.Noting.{IsNoted}
use Rattle.asl_cli.specs.Talking.{IsConversed}

-- a command was refused: a fault was told for which it may be, with lines for a person behind it or, where
-- these aren't wanted, without; nothing was printed, and the status is 2
abbrev pub IsRefusedFor : {O E : Type 0} → Io O E → Bool → (CommandFault → Type 0) → Type 0
IsRefusedFor io quiet refuses =
    (r : CommandFault) × (t : List ℕ) × refuses r × Tells quiet r t × IsUntouched io.out × (io.status ≡ 2)
    × IsTold io.err t

-- a command was done: a text that it may print was printed and gave its status; or it was refused
abbrev pub IsDone : {O E : Type 0} → Io O E → Bool → (List ℕ → ℕ → Type 0) → (CommandFault → Type 0)
    → Type 0
IsDone io quiet prints refuses =
    ((text : List ℕ) × (wanted : ℕ) × prints text wanted × IsUntouched io.err × Prints io text wanted)
    ⊎ IsRefusedFor io quiet refuses

-- the same of a command that may tell something besides, behind the text, where that is wanted
abbrev pub IsDoneNoting : {O E : Type 0} → Io O E → Bool → (List ℕ → List ℕ → ℕ → Type 0)
    → (CommandFault → Type 0) → Type 0
IsDoneNoting io quiet prints refuses =
    ((text : List ℕ) × (note : List ℕ) × (wanted : ℕ) × prints text note wanted
    × IsNoted io.err (unless_quiet quiet note) × Prints io text wanted)
    ⊎ IsRefusedFor io quiet refuses

-- the run of these words: what was emulated was printed, the status is that of its success, and the
-- answer that it lacked was told, if it lacked one; or a fault was told
abbrev pub IsRan : {O E : Type 0} → FileSystem → Io O E → Bool → RunWords → Type 0
IsRan files io quiet w =
    IsDoneNoting io quiet
    (λ text note status. (good : Bool) × IsEmulated files.gives w text good note
    × (status ≡ status_of good))
    (IsRunReason files.gives files.lacks w.begin (steps_name w))

-- how the steps of lines are told
abbrev pub look_of : DebugFormat → Bool → Look
look_of format.Text coloured = Transcript
look_of format.Tree true = Colours
look_of format.Tree false = Tree

-- a session was opened for these words, and its lines were answered; or it wasn't, which was told
abbrev pub IsTyped : {I O E : Type 0} → FileSystem → InputUse I → Io O E → Bool → Begin → Bool → Look
    → Type 0
IsTyped files typed io quiet w strict look =
    ((s : Setup) × IsBegun files.gives w s × IsConversed typed io strict look (first_console s))
    ⊎ IsRefusedFor io quiet (IsSetupReason files.gives files.lacks w)

-- the debugging by a script: the text of the run was printed
abbrev pub IsScripted : {O E : Type 0} → FileSystem → Io O E → Bool → Begin → List ℕ → Type 0
IsScripted files io quiet w script =
    IsDone io quiet (λ text wanted. IsDebugText files.gives w script text × (wanted ≡ 0))
    (IsDebugReason files.gives files.lacks w script)

abbrev pub IsDebuggedBy : {I O E : Type 0} → FileSystem → InputUse I → Io O E → Bool → Begin → Bool
    → Look → Option (List ℕ) → Type 0
IsDebuggedBy files typed io quiet w strict look None = IsTyped files typed io quiet w strict look
IsDebuggedBy files typed io quiet w strict look (Some script) = IsScripted files io quiet w script

-- the debugging of these words: by a script; without one, lines were answered
abbrev pub IsDebugged : {I O E : Type 0} → FileSystem → InputUse I → Io O E → Bool → DebugWords → Type 0
IsDebugged files typed io quiet w =
    IsDebuggedBy files typed io quiet w.begin w.strict (look_of w.format w.coloured) (script_name w)

-- the check of these words: a definition was passed and `ok` was printed
abbrev pub IsChecked : {O E : Type 0} → FileSystem → Io O E → Bool → DefinitionWords → Type 0
IsChecked files io quiet w =
    IsDone io quiet (λ text status. IsJudged files.gives w × (text ≡ codes "ok" ++ 10 ∷ []) × (status ≡ 0))
    (IsDefinitionReason files.gives files.lacks w)

-- the print of these words: a canonical form was printed
abbrev pub IsFormPrinted : {O E : Type 0} → FileSystem → Io O E → Bool → PrintWords → Type 0
IsFormPrinted files io quiet w =
    IsDone io quiet (λ text status. IsForm files.gives w text × (status ≡ 0))
    (IsDefinitionReason files.gives files.lacks w.definition)

-- the upgrade of these words: a canonical form in the newer spelling was printed
abbrev pub IsUpgraded : {O E : Type 0} → FileSystem → Io O E → Bool → PrintWords → Type 0
IsUpgraded files io quiet w =
    IsDone io quiet (λ text status. IsNewerForm files.gives w text × (status ≡ 0))
    (IsDefinitionReason files.gives files.lacks w.definition)

-- what is told of an answer to words that ask for no command
abbrev pub text_told : Answer → List ℕ
text_told (answer.Help text) = string_bytes text
text_told (answer.Wrong text) = string_bytes text
text_told answer.OutOfMemory = fault_line (codes "OutOfMemory")

-- an answer to words that ask for no command: help was printed, or what is wrong was told and the status
-- is 2
abbrev pub IsAnswered : {O E : Type 0} → Io O E → Answer → Type 0
IsAnswered io (answer.Help text) = IsUntouched io.err × Prints io (string_bytes text) 0
IsAnswered io a = IsUntouched io.out × (io.status ≡ 2) × IsTold io.err (text_told a)
