-- What the command `debug` does by a script.
use Rattle.std.specs.Prelude.{ℕ, List, Option, None, option_map, ◌≡◌, ◌⊎◌, ⊤}
use Rattle.asl_run_input.specs.Emulations.{Texts, Accepts}
use Rattle.asl_run_input.specs.declared.setup.Setup.{Setup}
use Rattle.asl_session.specs.declared.script_file.ScriptFault.{ScriptFault}
use Rattle.asl_session.specs.declared.script_file.ScriptFault.TheVariants as script
use Rattle.asl_session.specs.Scripts.{IsScriptRun, IsScriptFault}
use Rattle.asl_host.specs.Reading.{Lacks}
use Rattle.asl_words.specs.declared.words.Begin.{Begin}
use Rattle.asl_words.specs.declared.words.DebugWords.{DebugWords}
use Rattle.asl_cli.specs.declared.fault.CommandFault.{CommandFault}
use Rattle.asl_cli.specs.declared.fault.CommandFault.TheVariants.{Script, OutOfMemory}
use Rattle.asl_cli.specs.Faults.{IsUnread, IsTextsReason}
use Rattle.asl_cli.specs.Beginnings.{IsBeginning, IsNoBeginning, without_steps, IsBegun}

-- the name of the script, where there is one
abbrev pub script_name : DebugWords → Option (List ℕ)
script_name w = option_map (λ name. name.now) w.script

-- the text is that of a run by this script of the setup that the files may give
pub record IsDebugText (gives : List ℕ → List ℕ → Type 0) (b : Begin) (name text : List ℕ)
    : Type 0 where
  pub setup : Setup
  pub begins : IsBegun gives b setup
  pub bytes : List ℕ
  pub given : gives name bytes
  pub is_run : IsScriptRun setup bytes text

-- the fault of a script; want of memory is none
pub record IsScriptFaulty (bytes : List ℕ) (f : ScriptFault) : Type 0 where
  pub is_fault : IsScriptFault bytes f
  pub told : f ≡ script.OutOfMemory → ⊥

-- why these bytes are no script, or memory ran out
abbrev pub IsScriptReason : List ℕ → CommandFault → Type 0
IsScriptReason bytes (Script fault lines) = IsScriptFaulty bytes fault
IsScriptReason bytes OutOfMemory = ⊤
IsScriptReason bytes _ = ⊥

-- the execution of these texts begins, and this script of it is refused
abbrev pub IsBadScript : (List ℕ → List ℕ → Type 0) → Texts → List ℕ → CommandFault → Type 0
IsBadScript gives own script r =
    ((s : Setup) × Accepts own s None) × (bytes : List ℕ) × gives script bytes × IsScriptReason bytes r

-- the script can't be read, or what the execution was to begin with is refused, or the script
abbrev pub IsDebugReasonFrom : (List ℕ → List ℕ → Type 0) → Lacks → Texts → List ℕ → CommandFault → Type 0
IsDebugReasonFrom gives lacks own script r =
    IsUnread lacks script r ⊎ (IsTextsReason own r ⊎ IsBadScript gives own script r)

-- why nothing is debugged by this script: a file that the execution begins with can't be read, or that; or memory ran out
abbrev pub IsDebugReason : (List ℕ → List ℕ → Type 0) → Lacks → Begin → List ℕ
    → CommandFault → Type 0
IsDebugReason gives lacks b script r =
    IsNoBeginning gives lacks b r
    ⊎ ((own : Texts) × IsBeginning gives b own × IsDebugReasonFrom gives lacks (without_steps own) script r)
