-- What is done for each workflow of a project.
use Rattle.std.specs.Prelude.{ℕ, ◌==◌, max, nat_lt, List, [], ◌∷◌, ◌++◌, ◌≡◌, ◌⊎◌, ⊤, Bool, true, if◌then◌else◌, Option, Some, None, option_map, map, fold, length, count_by, codes, string_bytes}
use Rattle.std.specs.List.{flat_map}
use Rattle.std.specs.Fmt.{decimal}
use Rattle.asl_project.specs.declared.workflow.Workflow.{Workflow}
use Rattle.asl_words.specs.declared.words.DefinitionWords.{DefinitionWords}
use Rattle.asl_words.specs.declared.words.ProjectWords.{ProjectWords}
use Rattle.asl_words.specs.declared.words.LintAllWords.{LintAllWords}
use Rattle.asl_arguments.specs.declared.found.Lists.{Lists}
use Rattle.asl_arguments.specs.Given.{said_all}
use Rattle.asl_words.specs.declared.words.TestWords.{TestWords}
use Rattle.asl_words.specs.declared.words.TestAllWords.{TestAllWords}
use Rattle.asl_words.specs.declared.words.ReportFormat.{ReportFormat}
use Rattle.asl_words.specs.declared.words.ReportFormat.TheVariants as format
use Rattle.asl_suite.specs.Junit.{junit_suites}
use Rattle.asl_host.specs.Outcomes.{status_of, IsUntouched}
use Rattle.asl_cli.specs.Streams.{FileSystem, FileUse, found, later, OutputUse, IsUnused, Io}
use Rattle.asl_cli.specs.Choices.{IsProjectIn, IsProjectReason}
use Rattle.asl_cli.specs.Answers.{IsRefusedFor, IsChecked}
use Rattle.asl_cli.specs.Linting.{IsLintedBut, Wanted, role_file}
use Rattle.asl_cli.specs.declared.linting.Manner.{Manner}
use Rattle.asl_lint_files.specs.declared.kinds.Role.TheVariants as role
use Rattle.asl_cli.specs.declared.fault.CommandFault.{CommandFault}
use Rattle.asl_cli.specs.declared.suites.Part.{Part}
use Rattle.asl_cli.specs.declared.suites.SuiteNames.{SuiteNames}
use Rattle.asl_cli.specs.declared.suites.Together.{Together}
use Rattle.asl_cli.specs.Faults.{Tells}
use Rattle.asl_cli.specs.Suites.{IsShown, IsUndone, Leaving, IsLeft}

-- ---- one after another

-- up to where these sinks stand, with this status
abbrev pub until : {O E : Type 0} → Io O E → O → E → ℕ → Io O E
until io out err status = record {
  out = record io.out { after = out };
  err = record io.err { after = err };
  status = status;
}

-- from there on
abbrev pub behind : {O E : Type 0} → Io O E → O → E → ℕ → Io O E
behind io out err status = record {
  out = record io.out { before = out };
  err = record io.err { before = err };
  status = status;
}

-- this was done for each, in order, one behind another, of the files as they were found each time; the
-- status is the highest
abbrev pub AreDone : {F O E W : Type 0} → (FileUse F → Io O E → W → Type 0) → FileUse F → Io O E
    → List W → Type 0
AreDone does files io [] = IsUntouched io.out × IsUntouched io.err × (io.status ≡ 0)
AreDone {F = F} {O = O} {E = E} does files io (w ∷ ws) =
    (f : F) × (out : O) × (err : E) × (one : ℕ) × (others : ℕ)
    × does files (until io out err one) w
    × AreDone does (later files f) (behind io out err others) ws
    × (io.status ≡ max one others)

-- it was done for each workflow of the project, which was read first; or there is none, which was told
abbrev pub IsDoneForAll : {F O E : Type 0} → Bool → (FileUse F → Io O E → Workflow → Type 0) → FileUse F
    → Io O E → ProjectWords → Type 0
IsDoneForAll {F = F} quiet does files io w =
    ((ws : List Workflow) × (f : F) × IsProjectIn (found files).gives w ws
    × AreDone does (later files f) io ws)
    ⊎ IsRefusedFor io quiet (IsProjectReason (found files) w)

-- ---- definitions

-- its definition was judged
abbrev pub IsWorkflowChecked : {F O E : Type 0} → Bool → FileUse F → Io O E → Workflow → Type 0
IsWorkflowChecked quiet files io w =
    (d : DefinitionWords) × (d.definition.now ≡ w.definition) × IsChecked (found files) io quiet d

abbrev pub AreAllChecked : {F O E : Type 0} → FileUse F → Io O E → Bool → ProjectWords → Type 0
AreAllChecked files io quiet w = IsDoneForAll quiet (IsWorkflowChecked quiet) files io w

-- ---- everything that is wrong

-- how a workflow is judged
pub record IsMannerFor (a : LintAllWords) (w : Workflow) (m : Manner) : Type 0 where
  pub machine : option_map (λ k. k.now) m.machine ≡ w.machine
  pub format : m.format ≡ a.format
  pub strict : m.strict ≡ a.strict

-- its definition, and its mock file, where it has one
abbrev pub workflow_files : Workflow → List Wanted
workflow_files w = (w.definition, Some role.Definition, None) ∷ role_file role.Mocks w.mocks

-- these were linted, without the warnings of the rules that it ignores, and of those that are named
abbrev pub IsWorkflowLinted : {F O E : Type 0} → Bool → LintAllWords → Lists → FileUse F → Io O E → Workflow
    → Type 0
IsWorkflowLinted quiet a l files io w =
    (m : Manner) × IsMannerFor a w m
    × IsLintedBut (w.ignore ++ said_all l.ignored.items) (found files) io quiet m (workflow_files w)

abbrev pub AreAllLinted : {F O E : Type 0} → FileUse F → Io O E → Bool → LintAllWords → Lists → Type 0
AreAllLinted files io quiet a l = IsDoneForAll quiet (IsWorkflowLinted quiet a l) files io a.project

-- ---- tests

-- a file of tests of a workflow, and the files beside it
pub record SuiteFile : Type 0 where
  pub definition : List ℕ
  pub mocks : List ℕ
  pub tests : List ℕ

abbrev pub suite_by : List ℕ → List ℕ → List ℕ → SuiteFile
suite_by definition mocks file = record { definition = definition; mocks = mocks; tests = file }

abbrev pub suite_seen : SuiteNames → SuiteFile
suite_seen s = suite_by s.definition.now s.mocks.now s.tests.now

abbrev pub suites_with : Workflow → Option (List ℕ) → List SuiteFile
suites_with w None = []
suites_with w (Some mocks) = map (suite_by w.definition mocks) w.tests

-- those of a workflow; one without a mock file has none
abbrev pub suites_of : Workflow → List SuiteFile
suites_of w = suites_with w w.mocks

abbrev pub suites_in : List Workflow → List SuiteFile
suites_in ws = flat_map suites_of ws

-- the words for a file of tests
pub record IsTestOf (a : TestAllWords) (s : SuiteFile) (t : TestWords) : Type 0 where
  pub definition : t.definition.now ≡ s.definition
  pub mocks_are : t.mocks.now ≡ s.mocks
  pub expectations : t.expectations.now ≡ s.tests
  pub workers : t.workers ≡ a.workers
  pub format : t.format ≡ a.format
  pub junit : t.junit ≡ a.junit
  pub json : t.json ≡ a.json
  pub shard : t.shard ≡ a.shard
  pub filter : t.filter ≡ a.filter
  pub list : t.list ≡ a.list
  pub coverage : t.coverage ≡ a.coverage
  pub coverage_format : t.coverage_format ≡ a.coverage_format
  pub strict : t.strict ≡ a.strict
  pub orders : t.orders ≡ a.orders
  pub among : t.among ≡ true

-- what a file of tests adds to the report
pub record Added : Type 0 where
  pub text : List ℕ
  pub told : List ℕ
  pub junit : List ℕ
  pub json : List ℕ
  pub status : ℕ

abbrev pub added_by : Part → Added
added_by p = record {
  text = string_bytes p.text;
  told = string_bytes p.told;
  junit = string_bytes p.junit;
  json = string_bytes p.json;
  status = p.status;
}

-- its tests were run, and are reported as `test` reports them; or listed
abbrev pub IsRunPart : FileSystem → Bool → TestWords → Added → Type 0
IsRunPart files quiet t p =
    (good : Bool) × IsShown t.list files.gives quiet t p.text p.told good p.junit p.json
    × (p.status ≡ status_of good)

-- they weren't, which is told
abbrev pub IsRefusedPart : FileSystem → Bool → TestWords → Added → Type 0
IsRefusedPart files quiet t p =
    (r : CommandFault) × IsUndone t.list files.gives files.lacks t r × Tells quiet r p.told × (p.text ≡ [])
    × (p.junit ≡ []) × (p.json ≡ []) × (p.status ≡ 2)

abbrev pub IsPart : FileSystem → Bool → TestWords → Added → Type 0
IsPart files quiet t p = IsRunPart files quiet t p ⊎ IsRefusedPart files quiet t p

-- what each of these files of tests adds, one behind another, of the files as they were found each time
abbrev pub AreParts : {F : Type 0} → Bool → TestAllWords → FileUse F → List SuiteFile → List Added → Type 0
AreParts quiet a files [] [] = ⊤
AreParts quiet a files [] (p ∷ ps) = ⊥
AreParts quiet a files (s ∷ ss) [] = ⊥
AreParts {F = F} quiet a files (s ∷ ss) (p ∷ ps) =
    (f : F) × ((t : TestWords) × IsTestOf a s t × IsPart (found files) quiet t p)
    × AreParts quiet a (later files f) ss ps

unfoldable pub files_word : List ℕ
files_word = codes "files: "

unfoldable pub passed_word : List ℕ
passed_word = codes " passed, "

unfoldable pub failed_word : List ℕ
failed_word = codes " failed, "

unfoldable pub refused_word : List ℕ
refused_word = codes " refused\n"

-- how many of these statuses are this one
abbrev pub counted : ℕ → List ℕ → ℕ
counted n ss = count_by (λ s. s == n) ss

abbrev pub passed_part : List ℕ → List ℕ
passed_part ss = files_word ++ (decimal (counted 0 ss) ++ passed_word)

abbrev pub failed_part : List ℕ → List ℕ
failed_part ss = decimal (counted 1 ss) ++ failed_word

abbrev pub refused_part : List ℕ → List ℕ
refused_part ss = decimal (counted 2 ss) ++ refused_word

-- as `files: 2 passed, 1 failed, 0 refused`
abbrev pub counts_line : List ℕ → List ℕ
counts_line ss = passed_part ss ++ (failed_part ss ++ refused_part ss)

-- the line behind the reports of several files
abbrev pub summary : List ℕ → List ℕ
summary ss = if nat_lt (length ss) 2 then [] else counts_line ss

-- all that they add
pub record Joined : Type 0 where
  pub text : List ℕ
  pub told : List ℕ
  pub junit : List ℕ
  pub json : List ℕ
  pub statuses : List ℕ

abbrev pub together : List Added → Joined
together ps = record {
  text = flat_map (λ p. p.text) ps;
  told = flat_map (λ p. p.told) ps;
  junit = flat_map (λ p. p.junit) ps;
  json = flat_map (λ p. p.json) ps;
  statuses = map (λ p. p.status) ps;
}

abbrev pub together_seen : Together → Joined
together_seen t = record {
  text = string_bytes t.text;
  told = string_bytes t.told;
  junit = string_bytes t.junit;
  json = string_bytes t.json;
  statuses = t.statuses.items;
}

-- the report of them all
abbrev pub report_all : ReportFormat → Joined → List ℕ
report_all format.Text j = j.text ++ summary j.statuses
report_all format.JUnit j = junit_suites j.text
report_all format.Json j = j.text

abbrev pub shown_all : Bool → ReportFormat → Joined → List ℕ
shown_all list f j = if list then j.text else report_all f j

-- what tests that print this, and are this in JUnit's format, leave; the status is the highest
abbrev pub leaving_by : TestAllWords → List ℕ → List ℕ → Joined → Leaving
leaving_by a text junit j = record {
  text = text;
  remarks = j.told;
  status = fold max 0 j.statuses;
  list = a.list;
  junit_file = option_map (λ n. n.now) a.junit;
  junit = junit;
  json_file = option_map (λ n. n.now) a.json;
  json = j.json;
}

-- what the tests of a project leave
abbrev pub leaving_all : TestAllWords → List Added → Leaving
leaving_all a ps =
    let j = together ps in leaving_by a (shown_all a.list a.format j) (junit_suites j.junit) j

-- the tests of each file of each workflow were run, or listed, and one report was printed, and written; or there is no project, or
-- no memory, which was told
abbrev pub AreAllTested : {F K O E : Type 0} → FileUse F → OutputUse K → Io O E → Bool → TestAllWords → Type 0
AreAllTested {F = F} files outputs io quiet a =
    ((ws : List Workflow) × (f : F) × (ps : List Added) × IsProjectIn (found files).gives a.project ws
    × AreParts quiet a (later files f) (suites_in ws) ps × IsLeft outputs io quiet (leaving_all a ps))
    ⊎ (IsUnused outputs × IsRefusedFor io quiet (IsProjectReason (found files) a.project))
