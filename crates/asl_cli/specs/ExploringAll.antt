-- What the command `explore` does on a project.
use Rattle.std.specs.Prelude.{ℕ, List, [], ◌∷◌, ◌++◌, ◌≡◌, ◌⊎◌, Bool, Option, Some, None, unwrap_or, codes}
use Rattle.asl_json_data.specs.Compact.{quoted}
use Rattle.asl_project.specs.declared.workflow.Workflow.{Workflow}
use Rattle.asl_explore.specs.declared.found.Explored.{Explored}
use Rattle.asl_explore.specs.Reports.{explored_text, is_good}
use Rattle.asl_words.specs.declared.words.Begin.TheVariants.{Files}
use Rattle.asl_words.specs.declared.words.ExploreAllWords.{ExploreAllWords}
use Rattle.asl_words.specs.declared.words.ExploreWords.{ExploreWords}
use Rattle.asl_words.specs.declared.words.SetupWords.{SetupWords}
use Rattle.asl_host.specs.Outcomes.{IsUntouched}
use Rattle.asl_host.specs.declared.files.Unreadable.{Unreadable}
use Rattle.asl_cli.specs.Answers.{IsRefusedFor}
use Rattle.asl_cli.specs.Beginnings.{IsSetupReason}
use Rattle.asl_cli.specs.Cases.{IsChoice, alone}
use Rattle.asl_cli.specs.Exploring.{AreTextsShown, IsFoundFor, IsWanting}
use Rattle.asl_cli.specs.Projects.{AreDone, IsDoneForAll}
use Rattle.asl_cli.specs.Streams.{FileSystem, FileUse, Io, found, later}

-- ---- one test case

-- the input of a workflow, or an empty object
abbrev pub input_of : Workflow → List ℕ
input_of w = unwrap_or w.input (codes "{}")

abbrev pub AreNamesOf : Workflow → List ℕ → List ℕ → SetupWords → Type 0
AreNamesOf w mocks chosen s =
    (s.definition.now ≡ w.definition) × (s.mocks.now ≡ mocks) × (s.chosen.now ≡ chosen) × (s.input.now ≡ input_of w)

-- the words of `explore` for what is chosen of a workflow with this mock file
pub record IsWordsOf (a : ExploreAllWords) (w : Workflow) (mocks chosen : List ℕ) (e : ExploreWords) : Type 0 where
  pub setup : SetupWords
  pub begins : e.begin ≡ Files setup
  pub names : AreNamesOf w mocks chosen setup
  pub limit : e.limit ≡ a.limit
  pub prompt : e.prompt ≡ a.prompt
  pub calls : e.calls ≡ a.calls
  pub witness : e.witness ≡ None

-- what is chosen, and what was found of it
abbrev pub case_text : List ℕ → Explored → List ℕ
case_text chosen x = codes "case " ++ (quoted chosen ++ (10 ∷ (explored_text x ++ 10 ∷ [])))

-- what was found was printed; or nothing was tried, which was told
abbrev pub IsCaseShown : {O E : Type 0} → FileSystem → Io O E → Bool → List ℕ → ExploreWords → Type 0
IsCaseShown files io quiet chosen e =
    ((x : Explored) × (notes : List ℕ) × (witness : Option (List ℕ)) × IsFoundFor files.gives e x notes witness
    × AreTextsShown io quiet (case_text chosen x) (is_good x) notes)
    ⊎ IsRefusedFor io quiet (IsSetupReason files.gives files.lacks e.begin)

abbrev pub IsCaseExplored : {F O E : Type 0} → Bool → ExploreAllWords → Workflow → List ℕ → FileUse F → Io O E
    → List ℕ → Type 0
IsCaseExplored quiet a w mocks files io chosen =
    (e : ExploreWords) × IsWordsOf a w mocks chosen e × IsCaseShown (found files) io quiet chosen e

-- ---- those of a workflow

-- what is chosen of a workflow with this mock file: each test case; its machine alone where there is none, or the file can't be read
abbrev pub AreChosenOf : FileSystem → Workflow → List ℕ → List (List ℕ) → Type 0
AreChosenOf files w mocks cs =
    ((text : List ℕ) × files.gives mocks text × IsChoice w.machine text cs)
    ⊎ ((u : Unreadable) × files.lacks mocks u × (cs ≡ alone w.machine))

-- each of them was explored, where there is a mock file; or memory ran out
abbrev pub IsExploredBy : {F O E : Type 0} → Bool → ExploreAllWords → FileUse F → Io O E → Workflow
    → Option (List ℕ) → Type 0
IsExploredBy quiet a files io w None = IsUntouched io.out × IsUntouched io.err × (io.status ≡ 0)
IsExploredBy {F = F} quiet a files io w (Some mocks) =
    ((cs : List (List ℕ)) × (f : F) × AreChosenOf (found files) w mocks cs
    × AreDone (IsCaseExplored quiet a w mocks) (later files f) io cs)
    ⊎ IsWanting io

abbrev pub IsWorkflowExplored : {F O E : Type 0} → Bool → ExploreAllWords → FileUse F → Io O E → Workflow → Type 0
IsWorkflowExplored quiet a files io w = IsExploredBy quiet a files io w w.mocks

-- ---- those of a project

abbrev pub AreAllExplored : {F O E : Type 0} → FileUse F → Io O E → Bool → ExploreAllWords → Type 0
AreAllExplored files io quiet a = IsDoneForAll quiet (IsWorkflowExplored quiet a) files io a.project
