-- What is chosen of a project: which workflow's files an execution begins with.
use Rattle.std.specs.Prelude.{ℕ, List, ◌≡◌, ⊤, Bool, false, Option, Some, None, is_none, option_map, option_and_then, unwrap_or, codes}
use Rattle.std.specs.Option.{option_or}
use Rattle.std.specs.List.{find, before_first}
use Rattle.std.specs.Str.{bytes_eq}
use Rattle.asl_project.specs.Told.{IsProject, IsAnswer}
use Rattle.asl_project.specs.declared.fault.ProjectFault.{ProjectFault}
use Rattle.asl_project.specs.declared.fault.ProjectFault.TheVariants as project
use Rattle.asl_project.specs.declared.workflow.Workflow.{Workflow}
use Rattle.asl_words.specs.Asked.{is_case_mark}
use Rattle.asl_words.specs.declared.words.ProjectWords.{ProjectWords}
use Rattle.asl_words.specs.declared.words.SetupWords.{SetupWords}
use Rattle.asl_words.specs.declared.words.ChosenWords.{ChosenWords}
use Rattle.asl_mock.specs.declared.fault.CaseFault.TheVariants.{NoMachine}
use Rattle.asl_run_input.specs.declared.fault.EmulateFault.TheVariants as setup
use Rattle.asl_cli.specs.declared.fault.CommandFault.{CommandFault}
use Rattle.asl_cli.specs.declared.fault.CommandFault.TheVariants.{File, Emulation, Project, OutOfMemory}
use Rattle.asl_cli.specs.Streams.{FileSystem}
use Rattle.asl_cli.specs.Faults.{IsUnread}

-- ---- the project

abbrev pub project_name : ProjectWords → List ℕ
project_name w = unwrap_or (option_map (λ name. name.now) w.project) (codes "asl.toml")

-- its file may give a text that spells these workflows
pub record IsProjectIn (gives : List ℕ → List ℕ → Type 0) (w : ProjectWords) (ws : List Workflow)
    : Type 0 where
  pub text : List ℕ
  pub given : gives (project_name w) text
  pub is_project : IsProject (project_name w) text ws

-- it may give a text that is none for this fault; want of memory is no fault of a text
pub record IsNoProject (gives : List ℕ → List ℕ → Type 0) (w : ProjectWords) (f : ProjectFault)
    : Type 0 where
  pub text : List ℕ
  pub given : gives (project_name w) text
  pub is_fault : IsAnswer text f
  pub told : f ≡ project.OutOfMemory → ⊥

-- why there is no project: its file may be lacking, what was read is none, or memory ran out
abbrev pub IsProjectReason : FileSystem → ProjectWords → CommandFault → Type 0
IsProjectReason files w (File name why) = IsUnread files.lacks (project_name w) (File name why)
IsProjectReason files w (Project f lines) = IsNoProject files.gives w f
IsProjectReason files w OutOfMemory = ⊤
IsProjectReason files w _ = ⊥

-- ---- what is chosen

-- the machine that is chosen: what stands before the mark, or all
abbrev pub machine_in : List ℕ → List ℕ
machine_in chosen = before_first is_case_mark chosen

-- a workflow of this machine
abbrev pub is_of : List ℕ → Workflow → Bool
is_of machine w = unwrap_or (option_map (λ name. bytes_eq name machine) w.machine) false

-- one that doesn't say of which machine it is: of the only one of its mock file
abbrev pub is_unnamed : Workflow → Bool
is_unnamed w = is_none w.machine

-- the first that says that it is of this machine; else the first that doesn't say of which it is
abbrev pub workflow_of : List ℕ → List Workflow → Option Workflow
workflow_of machine ws = option_or (find (is_of machine) ws) (find is_unnamed ws)

-- the input that is given, or that of the workflow, or an empty object
abbrev pub input_for : ChosenWords → Workflow → List ℕ
input_for c w = unwrap_or (option_or (option_map (λ i. i.now) c.input) w.input) (codes "{}")

-- the files of what is chosen
pub record IsSetupOf (c : ChosenWords) (ws : List Workflow) (s : SetupWords) : Type 0 where
  pub workflow : Workflow
  pub found : workflow_of (machine_in c.chosen.now) ws ≡ Some workflow
  pub definition : s.definition.now ≡ workflow.definition
  pub mocks_are : workflow.mocks ≡ Some s.mocks.now
  pub chosen : s.chosen.now ≡ c.chosen.now
  pub input : s.input.now ≡ input_for c workflow

-- there is no workflow of the machine, or it has no mock file; or memory ran out
abbrev pub IsUnchosen : ChosenWords → List Workflow → CommandFault → Type 0
IsUnchosen c ws (Emulation f lines) =
    (option_and_then (λ w. w.mocks) (workflow_of (machine_in c.chosen.now) ws) ≡ None)
    × (f ≡ setup.Case NoMachine)
IsUnchosen c ws OutOfMemory = ⊤
IsUnchosen c ws _ = ⊥
