-- What is found in a file that is neither a definition nor a mock file.
use Rattle.std.specs.Prelude.{◌≡◌, ◌⊎◌, ℕ, ◌+◌, Bool, true, false, List, [], ◌∷◌, ◌++◌, Option, Some, None, codes, is_some, map, option_and_then}
use Rattle.asl_json_data.specs.Data.{Data, text, Chain, no_items, item}
use Rattle.asl_json_data.specs.Reads.{ReadsAs}
use Rattle.asl_json.specs.Access.{items_in}
use Rattle.asl_json.specs.Meaning.{value_in}
use Rattle.asl_json_read.specs.Wrong.{IsFaultOf, IsFirstOf}
use Rattle.asl_json_read.specs.declared.fault.JsonFault.{JsonFault}
use Rattle.asl_json_read.specs.declared.fault.JsonFault.TheVariants as json
use Rattle.asl_run_input.specs.FileLines.{lines_in, AreSpelled, IsFirstBadLine}
use Rattle.asl_run_input.specs.StepsFile.{IsStepLine}
use Rattle.asl_session.specs.Scripts.{IsCommandLine}
use Rattle.asl_suite_file.specs.Form.{first_of, misfits}
use Rattle.asl_lint.specs.declared.finding.Finding.{Finding}
use Rattle.asl_lint.specs.declared.rule.Rule.{Rule}
use Rattle.asl_lint.specs.declared.rule.Rule.TheVariants as rule
use Rattle.asl_lint.specs.declared.rule.FileRule.TheVariants as file
use Rattle.asl_lint.specs.Findings.{Noted}
use Rattle.asl_lint.specs.Places.{ArePlaced, ruled}
use Rattle.asl_lint_files.specs.Lines.{line_span}
use Rattle.asl_lint_files.specs.Pointing.{way_in}

-- ---- texts that are no JSON

-- the bytes are no JSON text: this is the first fault, and it alone is told, by the rule that is for it
pub record IsUnreadFor (told : JsonFault → Rule) (b : List ℕ) (fs : List Finding) : Type 0 where
  pub fault : JsonFault
  pub is : IsFaultOf b fault
  pub first : IsFirstOf b fault
  pub known : fault ≡ json.OutOfMemory → ⊥
  pub only : map (λ (f : Finding). f.rule) fs ≡ told fault ∷ []

-- ---- inputs

-- the rule of each fault of a text
abbrev pub rule_of_text : JsonFault → Rule
rule_of_text (json.Syntax at) = rule.File file.Syntax
rule_of_text (json.Duplicate at) = rule.File file.Duplicate
rule_of_text (json.Depth at) = rule.File file.Depth
rule_of_text (json.Number at) = rule.File file.Number
rule_of_text json.Size = rule.File file.Size
rule_of_text (json.Utf8 at) = rule.File file.Utf8
rule_of_text json.OutOfMemory = rule.File file.Size

-- any JSON text is an input
abbrev pub IsInputJudged : List ℕ → List Finding → Type 0
IsInputJudged b fs = ((d : Data) × ReadsAs b d × (fs ≡ [])) ⊎ IsUnreadFor rule_of_text b fs

-- ---- expectation files

abbrev pub text_in : Data → Option (List ℕ)
text_in (text t) = Some t
text_in d = None

abbrev pub text_at : List ℕ → Data → Option (List ℕ)
text_at k d = option_and_then text_in (value_in k d)

-- a machine of a mock file has a case
abbrev pub is_case : Data → List ℕ → List ℕ → Bool
is_case mocks machine case =
    is_some (option_and_then (value_in case) (option_and_then (value_in (codes "TestCases"))
    (option_and_then (value_in machine) (value_in (codes "StateMachines") mocks))))

-- the one that a test names, where it names one
abbrev pub is_case_of : Data → Option (List ℕ) → Option (List ℕ) → Bool
is_case_of mocks (Some machine) (Some case) = is_case mocks machine case
is_case_of mocks machine case = true

abbrev pub has_case : Data → Data → Bool
has_case mocks test = is_case_of mocks (text_at (codes "machine") test) (text_at (codes "case") test)

abbrev pub lost_if : Bool → ℕ → List Noted
lost_if true i = []
lost_if false i = (rule.File file.NoCase, i ∷ []) ∷ []

-- the tests whose case a mock file doesn't have, counted from i
abbrev pub lost_from : ℕ → Data → Chain → List Noted
lost_from i mocks no_items = []
lost_from i mocks (item d ds) = lost_if (has_case mocks d) i ++ lost_from (i + 1) mocks ds

abbrev pub lost_cases : Option Data → Data → List Noted
lost_cases None d = []
lost_cases (Some mocks) d = lost_from 0 mocks (items_in d)

-- the first value that doesn't fit; where all fits, the tests whose case isn't in the mock file, where
-- there is one
abbrev pub tests_told_of : Option (List ℕ) → Option Data → Data → List Noted
tests_told_of (Some p) mocks d = (rule.File file.ExpectShape, way_in d p) ∷ []
tests_told_of None mocks d = lost_cases mocks d

abbrev pub tests_told : Option Data → Data → List Noted
tests_told mocks d = tests_told_of (first_of (misfits d)) mocks d

abbrev pub unread_tests : JsonFault → Rule
unread_tests f = rule.File file.ExpectJson

-- the bytes are a text of a value, in which these are found, each at its place
pub record AreTestsJudged (mocks : Option Data) (b : List ℕ) (fs : List Finding) : Type 0 where
  pub value : Data
  pub reads : ReadsAs b value
  pub placed : ArePlaced b value (tests_told mocks value) (map ruled fs)

abbrev pub AreExpectationsJudged : Option Data → List ℕ → List Finding → Type 0
AreExpectationsJudged mocks b fs = IsUnreadFor unread_tests b fs ⊎ AreTestsJudged mocks b fs

-- ---- files of lines

-- each line spells a value, and nothing is told; or the first line that doesn't is, where it stands
abbrev pub AreLinesJudged : {X : Type 0} → (List ℕ → X → Type 0) → Rule → List ℕ → List Finding → Type 0
AreLinesJudged {X = X} Spells r b fs =
    ((xs : List X) × AreSpelled Spells (lines_in b) xs × (fs ≡ []))
    ⊎ ((n : ℕ) × IsFirstBadLine Spells b n × (map ruled fs ≡ (r, line_span n b) ∷ []))

abbrev pub AreStepsJudged : List ℕ → List Finding → Type 0
AreStepsJudged b fs = AreLinesJudged IsStepLine (rule.File file.StepLine) b fs

abbrev pub IsScriptJudged : List ℕ → List Finding → Type 0
IsScriptJudged b fs = AreLinesJudged IsCommandLine (rule.File file.ScriptLine) b fs

-- ---- a file of which it isn't clear what it is

abbrev pub unread_file : JsonFault → Rule
unread_file f = rule.File file.Kind

-- this is told where its text begins, or where it is no JSON
abbrev pub IsUnclear : List ℕ → List Finding → Type 0
IsUnclear b fs =
    ((d : Data) × ReadsAs b d
    × (map ruled fs ≡ (rule.File file.Kind, record { begin = 0; end = 0 }) ∷ []))
    ⊎ IsUnreadFor unread_file b fs
