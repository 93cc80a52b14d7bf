-- What an execution begins with: the texts that files may give, and why there are none.
use Rattle.std.specs.Prelude.{ℕ, zero, suc, List, [], ◌∷◌, ◌++◌, ◌≡◌, ◌⊎◌, ⊤, Option, Some, None, option_map, slice_get, string_bytes}
use Rattle.std.specs.List.{before_first}
use Rattle.asl_json.specs.View.{data_of}
use Rattle.asl_json_data.specs.Compact.{compact}
use Rattle.asl_run_input.specs.declared.setup.Setup.{Setup}
use Rattle.asl_run_input.specs.Emulations.{Texts, Accepts}
use Rattle.asl_run_input.specs.StepsFile.{steps_file}
use Rattle.asl_project.specs.declared.workflow.Workflow.{Workflow}
use Rattle.asl_suite_file.specs.Told.{IsExpectationsFile}
use Rattle.asl_suite_file.specs.declared.expectation.Draft.{Draft}
use Rattle.asl_suite_file.specs.declared.expectation.InputSource.{InputSource}
use Rattle.asl_suite_file.specs.declared.expectation.InputSource.TheVariants as source
use Rattle.asl_host.specs.Naming.{beside}
use Rattle.asl_host.specs.Reading.{Lacks}
use Rattle.asl_words.specs.Asked.{is_case_mark}
use Rattle.asl_words.specs.declared.words.Begin.{Begin}
use Rattle.asl_words.specs.declared.words.Begin.TheVariants as begin
use Rattle.asl_words.specs.declared.words.SetupWords.{SetupWords}
use Rattle.asl_words.specs.declared.words.ChosenWords.{ChosenWords}
use Rattle.asl_words.specs.declared.words.TestedWords.{TestedWords}
use Rattle.asl_cli.specs.declared.beginning.Beginning.{Beginning}
use Rattle.asl_cli.specs.declared.fault.CommandFault.{CommandFault}
use Rattle.asl_cli.specs.declared.fault.CommandFault.TheVariants.{Test, OutOfMemory}
use Rattle.asl_cli.specs.Streams.{file_system}
use Rattle.asl_cli.specs.Faults.{IsUnread, AreUnread, IsGiven, named, names_in, read_texts, AreGiven, IsTextsReason, IsTestsTextReason}
use Rattle.asl_cli.specs.Choices.{IsProjectIn, IsProjectReason, IsSetupOf, IsUnchosen}

-- ---- a workflow of a project

-- the files of what is chosen may give these texts
pub record AreGivenIn (gives : List ℕ → List ℕ → Type 0) (c : ChosenWords) (t : Texts) : Type 0 where
  pub workflows : List Workflow
  pub is_project : IsProjectIn gives c.project workflows
  pub setup : SetupWords
  pub is_setup : IsSetupOf c workflows setup
  pub given : AreGiven gives setup t

-- nothing is chosen of these workflows, or a file of what is chosen can't be read
abbrev pub IsUnchosenIn : (List ℕ → List ℕ → Type 0) → Lacks → ChosenWords → List Workflow → CommandFault → Type 0
IsUnchosenIn gives lacks c ws r =
    IsUnchosen c ws r ⊎ ((s : SetupWords) × IsSetupOf c ws s × AreUnread gives lacks (names_in s) r)

-- why they give none: there is no project, or that
abbrev pub AreUngivenIn : (List ℕ → List ℕ → Type 0) → Lacks → ChosenWords → CommandFault → Type 0
AreUngivenIn gives lacks c r =
    IsProjectReason (file_system gives lacks) c.project r
    ⊎ ((ws : List Workflow) × IsProjectIn gives c.project ws × IsUnchosenIn gives lacks c ws r)

-- ---- a test of a file of tests

-- the file of the tests
abbrev pub suite_name : TestedWords → List ℕ
suite_name w = before_first is_case_mark w.test.now

abbrev pub tested_names : TestedWords → List (List ℕ)
tested_names w = w.definition.now ∷ w.mocks.now ∷ suite_name w ∷ []

-- the test of a number, from 1
abbrev pub test_of : List Draft → ℕ → Option Draft
test_of all zero = None
test_of all (suc n) = slice_get all n

-- what a test chooses: its machine, and its case where that has a name
abbrev pub chosen_by : List ℕ → List ℕ → List ℕ
chosen_by machine [] = machine
chosen_by machine (c ∷ name) = machine ++ 35 ∷ c ∷ name

-- the text of an input: of a value the compact one, else that of the file
abbrev pub IsInputText : (List ℕ → List ℕ → Type 0) → List ℕ → InputSource → List ℕ → Type 0
IsInputText gives file (source.Here x) b = b ≡ compact (data_of x)
IsInputText gives file (source.File name) b = gives (beside file name) b

-- the file of an input can't be read
abbrev pub IsInputUnread : Lacks → List ℕ → InputSource → CommandFault → Type 0
IsInputUnread lacks file (source.Here x) r = r ≡ OutOfMemory
IsInputUnread lacks file (source.File name) r = IsUnread lacks (beside file name) r

-- the tests that the file may have
pub record AreTestsIn (gives : List ℕ → List ℕ → Type 0) (w : TestedWords) (all : List Draft) : Type 0 where
  pub bytes : List ℕ
  pub given : gives (suite_name w) bytes
  pub are_tests : IsExpectationsFile bytes all

-- what the test chooses, its input, and its steps, where it has some
pub record IsOfTest (gives : List ℕ → List ℕ → Type 0) (w : TestedWords) (d : Draft) (t : Texts)
    : Type 0 where
  pub chosen : t.chosen ≡ chosen_by d.machine d.case
  pub input : IsInputText gives (suite_name w) d.input t.input
  pub steps : t.steps ≡ option_map steps_file d.steps

-- the files may give these texts of the test that is named
pub record AreGivenBy (gives : List ℕ → List ℕ → Type 0) (w : TestedWords) (t : Texts) : Type 0 where
  pub all : List Draft
  pub are_tests : AreTestsIn gives w all
  pub test : Draft
  pub is_test : test_of all w.number ≡ Some test
  pub of_test : IsOfTest gives w test t
  pub definition : gives w.definition.now t.definition
  pub mocks : gives w.mocks.now t.mocks

abbrev pub IsNoTest : ℕ → CommandFault → Type 0
IsNoTest n (Test number lines) = number ≡ n
IsNoTest n OutOfMemory = ⊤
IsNoTest n _ = ⊥

-- there is no test of the number, or the file of its input can't be read
abbrev pub IsTestReason : Lacks → TestedWords → List Draft → CommandFault → Type 0
IsTestReason lacks w all r =
    ((test_of all w.number ≡ None) × IsNoTest w.number r)
    ⊎ ((d : Draft) × (test_of all w.number ≡ Some d) × IsInputUnread lacks (suite_name w) d.input r)

-- what stands in the file of tests is none
pub record AreNoTests (gives : List ℕ → List ℕ → Type 0) (w : TestedWords) (r : CommandFault) : Type 0 where
  pub bytes : List ℕ
  pub given : gives (suite_name w) bytes
  pub reason : IsTestsTextReason bytes r

-- why they give none
abbrev pub AreUngivenBy : (List ℕ → List ℕ → Type 0) → Lacks → TestedWords → CommandFault → Type 0
AreUngivenBy gives lacks w r =
    AreUnread gives lacks (tested_names w) r
    ⊎ (AreNoTests gives w r ⊎ ((all : List Draft) × AreTestsIn gives w all × IsTestReason lacks w all r))

-- ---- each of them

-- the files that are named, or found, may give these texts
abbrev pub IsBeginning : (List ℕ → List ℕ → Type 0) → Begin → Texts → Type 0
IsBeginning gives (begin.Files w) t = AreGiven gives w t
IsBeginning gives (begin.Project c) t = AreGivenIn gives c t
IsBeginning gives (begin.Test w) t = AreGivenBy gives w t

-- why they give none, or memory ran out
abbrev pub IsNoBeginning : (List ℕ → List ℕ → Type 0) → Lacks → Begin → CommandFault → Type 0
IsNoBeginning gives lacks (begin.Files w) r = AreUnread gives lacks (names_in w) r
IsNoBeginning gives lacks (begin.Project c) r = AreUngivenIn gives lacks c r
IsNoBeginning gives lacks (begin.Test w) r = AreUngivenBy gives lacks w r

-- the texts of what was read, with the steps of a test where it has some
abbrev pub texts_in : Beginning → Texts
texts_in b = read_texts b.texts (option_map string_bytes b.steps)

-- ---- a run

-- these texts with the steps of a file, where there is one
abbrev pub by_steps : Texts → Option (List ℕ) → Texts
by_steps t None = t
by_steps t (Some b) = record t { steps = Some b }

-- what begins so is refused with the steps of the file of this name, where one is named
abbrev pub IsRefusedFrom : (List ℕ → List ℕ → Type 0) → Texts → Option (List ℕ) → CommandFault → Type 0
IsRefusedFrom gives own name r =
    (steps : Option (List ℕ)) × IsGiven gives name steps × IsTextsReason (by_steps own steps) r

-- that file can't be read, or that
abbrev pub IsReasonFrom : (List ℕ → List ℕ → Type 0) → Lacks → Texts → Option (List ℕ) → CommandFault → Type 0
IsReasonFrom gives lacks own name r = AreUnread gives lacks (named name) r ⊎ IsRefusedFrom gives own name r

-- why nothing is run: a file can't be read, or what was read is refused; or memory ran out
abbrev pub IsRunReason : (List ℕ → List ℕ → Type 0) → Lacks → Begin → Option (List ℕ) → CommandFault → Type 0
IsRunReason gives lacks b name r =
    IsNoBeginning gives lacks b r
    ⊎ ((own : Texts) × IsBeginning gives b own × IsReasonFrom gives lacks own name r)

-- ---- an execution of which no steps are named

-- a test's steps are left to whoever debugs or explores it
abbrev pub without_steps : Texts → Texts
without_steps t = record t { steps = None }

-- the files may give the texts of this setup
pub record IsBegun (gives : List ℕ → List ℕ → Type 0) (b : Begin) (s : Setup) : Type 0 where
  pub texts : Texts
  pub begins : IsBeginning gives b texts
  pub accepted : Accepts (without_steps texts) s None

-- why nothing begins: a file can't be read, or what was read is refused; or memory ran out
abbrev pub IsSetupReason : (List ℕ → List ℕ → Type 0) → Lacks → Begin → CommandFault → Type 0
IsSetupReason gives lacks b r =
    IsNoBeginning gives lacks b r
    ⊎ ((own : Texts) × IsBeginning gives b own × IsTextsReason (without_steps own) r)
