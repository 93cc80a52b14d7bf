-- What the command `test` reads, why nothing is tested, and what is printed and told of a suite.
use Rattle.std.specs.Prelude.{ℕ, Bool, true, false, is_some, codes, not, ◌&&◌, if◌then◌else◌, nat_lt, map, List, [], ◌∷◌, ◌++◌, Option, Some, None, option_map, ◌≡◌, ◌⊎◌, ⊤}
use Rattle.std.specs.List.{list_all}
use Rattle.std.specs.Fmt.{decimal}
use Rattle.asl_check.specs.Judged.{IsDefinition, IsMachineOf}
use Rattle.asl_mock.specs.Told.{IsMockFile}
use Rattle.asl_mock.specs.Answers.{Machines}
use Rattle.asl_suite_file.specs.Told.{IsExpectationsFile}
use Rattle.asl_suite_file.specs.Shards.{every}
use Rattle.asl_suite_file.specs.declared.expectation.Draft.{Draft}
use Rattle.asl_run_input.specs.Texts.{IsDefinitionFault, IsMockFault}
use Rattle.asl_run_input.specs.declared.fault.EmulateFault.{EmulateFault}
use Rattle.asl_run_input.specs.declared.fault.EmulateFault.TheVariants as setup
use Rattle.asl_suite_coverage.specs.declared.point.Point.{Point}
use Rattle.asl_suite_coverage.specs.Points.{percent_of, coverage_text}
use Rattle.asl_suite.specs.Cases.{reports_of, strict_report}
use Rattle.asl_suite.specs.Reports.{is_passed, report_text}
use Rattle.asl_suite.specs.Findings.{reports_in}
use Rattle.asl_suite.specs.JsonLines.{json_text}
use Rattle.asl_suite.specs.Junit.{suite_element, junit_text}
use Rattle.asl_suite.specs.declared.finding.Finding.{Finding}
use Rattle.asl_suite.specs.declared.suite.Suite.{Suite}
use Rattle.asl_suite.specs.declared.case_report.CaseReport.{CaseReport}
use Rattle.asl_suite_orders.specs.Suites.{AreReported}
use Rattle.asl_words.specs.declared.words.TestWords.{TestWords}
use Rattle.asl_words.specs.declared.words.OrderWords.{OrderWords}
use Rattle.asl_words.specs.declared.words.ReportFormat.{ReportFormat}
use Rattle.asl_words.specs.declared.words.ReportFormat.TheVariants as format
use Rattle.asl_words.specs.declared.words.CoverageFormat.{CoverageFormat}
use Rattle.asl_words.specs.declared.words.CoverageFormat.TheVariants as coverage
use Rattle.asl_host.specs.Reading.{Lacks}
use Rattle.asl_host.specs.Outcomes.{status_of, IsPrinted, IsTold}
use Rattle.asl_cli.specs.declared.fault.CommandFault.{CommandFault}
use Rattle.asl_cli.specs.declared.testing.SpelledSuite.{SpelledSuite}
use Rattle.asl_cli.specs.declared.leaving.Left.{Left}
use Rattle.asl_cli.specs.declared.fault.CommandFault.TheVariants.{File, Definition, Emulation, Expectations, Output, OutOfMemory}
use Rattle.asl_cli.specs.Choosing.{list_text, meant}
use Rattle.asl_cli.specs.Exploring.{orders_for}
use Rattle.asl_cli.specs.Covers.{ArePointsOf, IsJsonTold, IsLcovTold}
use Rattle.asl_cli.specs.Inputs.{AreTestsOn, IsFirstLost, Unless}
use Rattle.asl_cli.specs.Streams.{FileSystem, OutputUse, IsUnused, Writes, Io, Prints, AreTold}
use Rattle.asl_cli.specs.Answers.{IsRefusedFor}
use Rattle.asl_cli.specs.Faults.{AreUnread, IsExpectFault, Tells}

-- ---- the files

-- the files that the words name may give these bytes
abbrev pub AreSuiteTexts : (List ℕ → List ℕ → Type 0) → TestWords → List ℕ → List ℕ → List ℕ
    → Type 0
AreSuiteTexts gives w definition mocks expectations =
    gives w.definition.now definition × gives w.mocks.now mocks
    × gives w.expectations.now expectations

-- the files that the words name, in their order
abbrev pub suite_names : TestWords → List (List ℕ)
suite_names w = w.definition.now ∷ w.mocks.now ∷ w.expectations.now ∷ []

-- ---- the suite

-- the tests that the words choose: those that the shard has and the word means
abbrev pub chosen : TestWords → List Draft → List Draft
chosen w all = meant w.filter (every w.shard.first w.shard.apart all)

-- those of the tests of a file, of which inputs may stand in files
pub record AreDraftsOf (expectations : List ℕ) (w : TestWords) (drafts : List Draft) : Type 0 where
  pub all : List Draft
  pub are_all : IsExpectationsFile expectations all
  pub are_chosen : drafts ≡ chosen w all

-- the suite that texts spell, of which inputs may stand in files
pub record IsSpelled (definition mocks expectations : List ℕ) (w : TestWords) (s : SpelledSuite) : Type 0
  where
    pub is_machine : IsMachineOf definition s.machine
    pub are_mocks : IsMockFile mocks s.mocks
    pub are_drafts : AreDraftsOf expectations w s.drafts.list.items

-- the suite that texts spell, with inputs that files may hold
pub record IsSuiteOf (gives : List ℕ → List ℕ → Type 0) (definition mocks expectations : List ℕ)
    (w : TestWords) (s : Suite) : Type 0 where
  pub is_machine : IsMachineOf definition s.machine
  pub are_mocks : IsMockFile mocks s.mocks
  pub drafts : List Draft
  pub are_drafts : AreDraftsOf expectations w drafts
  pub are_tests : AreTestsOn gives w.expectations.now drafts s.tests.list.items

-- the suite that the files may give
pub record IsSuiteIn (gives : List ℕ → List ℕ → Type 0) (w : TestWords) (s : Suite) : Type 0 where
  pub definition : List ℕ
  pub mocks : List ℕ
  pub expectations : List ℕ
  pub given : AreSuiteTexts gives w definition mocks expectations
  pub is_suite : IsSuiteOf gives definition mocks expectations w s

-- ---- why there is none

abbrev pub IsDefinitionTextReason : List ℕ → CommandFault → Type 0
IsDefinitionTextReason b (Definition f lines) = IsDefinitionFault b f
IsDefinitionTextReason b OutOfMemory = ⊤
IsDefinitionTextReason b _ = ⊥

abbrev pub IsMocksFault : List ℕ → EmulateFault → Type 0
IsMocksFault b (setup.Mocks f) = IsMockFault b f
IsMocksFault b _ = ⊥

abbrev pub IsMocksTextReason : List ℕ → CommandFault → Type 0
IsMocksTextReason b (Emulation f lines) = IsMocksFault b f
IsMocksTextReason b OutOfMemory = ⊤
IsMocksTextReason b _ = ⊥

-- the texts before the one with the fault have none
abbrev pub AreMocks : List ℕ → Type 0
AreMocks b = (ms : Machines) × IsMockFile b ms

-- why texts spell no suite: the first of them that has a fault, with its fault; or memory ran out
abbrev pub IsSuiteTextReason : List ℕ → List ℕ → List ℕ → CommandFault → Type 0
IsSuiteTextReason definition mocks expectations (File name why) = ⊥
IsSuiteTextReason definition mocks expectations (Definition f lines) = IsDefinitionFault definition f
IsSuiteTextReason definition mocks expectations (Emulation f lines) =
    IsDefinition definition × IsMocksFault mocks f
IsSuiteTextReason definition mocks expectations (Expectations f lines) =
    IsDefinition definition × AreMocks mocks × IsExpectFault expectations f
IsSuiteTextReason definition mocks expectations OutOfMemory = ⊤
IsSuiteTextReason definition mocks expectations _ = ⊥

-- what the files may give is no suite, for this reason
pub record IsNoSuite (gives : List ℕ → List ℕ → Type 0) (w : TestWords) (r : CommandFault)
    : Type 0 where
  pub definition : List ℕ
  pub mocks : List ℕ
  pub expectations : List ℕ
  pub given : AreSuiteTexts gives w definition mocks expectations
  pub reason : IsSuiteTextReason definition mocks expectations r

-- what the files may give is a suite but for the inputs that stand in files, of which one can't be had for
-- this reason
pub record IsInputless (gives : List ℕ → List ℕ → Type 0) (lacks : Lacks) (w : TestWords) (r : CommandFault)
    : Type 0 where
  pub definition : List ℕ
  pub mocks : List ℕ
  pub expectations : List ℕ
  pub given : AreSuiteTexts gives w definition mocks expectations
  pub spelled : SpelledSuite
  pub is_spelled : IsSpelled definition mocks expectations w spelled
  pub lost : Unless (IsFirstLost gives lacks w.expectations.now spelled.drafts.list.items) r

-- why nothing is listed: a file that the words name can't be read, or what was read is no suite
abbrev pub IsListReason : (List ℕ → List ℕ → Type 0) → Lacks → TestWords → CommandFault → Type 0
IsListReason gives lacks w r = AreUnread gives lacks (suite_names w) r ⊎ IsNoSuite gives w r

-- why nothing is tested: the same, or an input that stands in a file can't be had
abbrev pub IsSuiteReason : (List ℕ → List ℕ → Type 0) → Lacks → TestWords
    → CommandFault → Type 0
IsSuiteReason gives lacks w r = IsListReason gives lacks w r ⊎ IsInputless gives lacks w r

-- why nothing is done: one or the other
abbrev pub IsUndone : Bool → (List ℕ → List ℕ → Type 0) → Lacks → TestWords → CommandFault → Type 0
IsUndone true gives lacks w r = IsListReason gives lacks w r
IsUndone false gives lacks w r = IsSuiteReason gives lacks w r

-- ---- what is printed

-- JUnit's element where a suite stands among others, else its document
abbrev pub junit_part : Bool → List ℕ → List Finding → List ℕ
junit_part among name fs = if among then suite_element name fs else junit_text name fs

-- the text of reports, which may stand among others; in the formats for tools that of what is told of them
abbrev pub IsReportText : Bool → ReportFormat → List CaseReport → List ℕ → Type 0
IsReportText among format.Text reports text = text ≡ report_text reports
IsReportText among format.JUnit reports text =
    (name : List ℕ) × (fs : List Finding) × (reports_in fs ≡ reports) × text ≡ junit_part among name fs
IsReportText among format.Json reports text =
    (fs : List Finding) × (reports_in fs ≡ reports) × text ≡ json_text fs

-- the texts of the reports for the files that are named for them
pub record AreFileTexts (w : TestWords) (reports : List CaseReport) (junit json : List ℕ) : Type 0 where
  pub is_junit : is_some w.junit ≡ true → IsReportText w.among format.JUnit reports junit
  pub is_json : is_some w.json ≡ true → IsReportText w.among format.Json reports json

-- these reports; or those by which a test that may not mean what it says fails
abbrev pub judged : Bool → List CaseReport → List CaseReport
judged strict reports = if strict then map strict_report reports else reports

-- these are the reports of the tests of a suite: of the driven run of each, or of all its orders
abbrev pub AreReportsOf : Option OrderWords → Suite → List CaseReport → Type 0
AreReportsOf None s reports = reports ≡ reports_of s
AreReportsOf (Some o) s reports = AreReported (orders_for (not o.every)) o.limit s reports

-- the text and the success of a suite, and the texts for files, are those of the reports of its tests
pub record IsReport (w : TestWords) (s : Suite) (text : List ℕ) (good : Bool) (junit json : List ℕ) : Type 0
  where
    pub reports : List CaseReport
    pub are_reports : AreReportsOf w.orders s reports
    pub is_text : IsReportText w.among w.format (judged w.strict reports) text
    pub is_good : good ≡ list_all is_passed (judged w.strict reports)
    pub are_files : AreFileTexts w (judged w.strict reports) junit json

unfoldable pub percent_words : ℕ → List ℕ
percent_words percent = codes "coverage " ++ (decimal percent ++ codes "%")

unfoldable pub least_words : ℕ → List ℕ
least_words least = codes " is below " ++ (decimal least ++ codes "%\n")

-- as `coverage 94% is below 95%`
abbrev pub below : ℕ → ℕ → List ℕ
below percent least = percent_words percent ++ least_words least

abbrev pub lacking : ℕ → ℕ → List ℕ
lacking percent least = if nat_lt percent least then below percent least else []

-- how much the tests cover, and that it is too little, where it is
abbrev pub coverage_told : List Point → ℕ → List ℕ
coverage_told points least = coverage_text points ++ lacking (percent_of points) least

-- the same in a format
abbrev pub IsCoverageTold : CoverageFormat → TestWords → List ℕ → List ℕ → List Point → ℕ → List ℕ
    → Type 0
IsCoverageTold coverage.Text w definition mocks points least shown = shown ≡ coverage_told points least
IsCoverageTold coverage.Json w definition mocks points least shown = IsJsonTold w definition mocks points shown
IsCoverageTold coverage.Lcov w definition mocks points least shown = IsLcovTold w definition mocks points shown

-- what is told where a least percent is given: behind the remarks stands how much the tests of the suite
-- cover, of the definition and the mock file that these bytes spell
pub record IsCovered (w : TestWords) (definition mocks : List ℕ) (s : Suite) (least : ℕ) (remarks : List ℕ)
    (passed good : Bool) (told : List ℕ) : Type 0 where
  pub points : List Point
  pub shown : List ℕ
  pub are_points : ArePointsOf mocks s points
  pub is_shown : IsCoverageTold w.coverage_format w definition mocks points least shown
  pub told_is : told ≡ remarks ++ shown
  pub is_good : good ≡ (passed && not (nat_lt (percent_of points) least))

-- whether all is good: all tests passed and, where a least percent is given, they cover no less
abbrev pub IsGood : TestWords → List ℕ → List ℕ → Suite → Option ℕ → List ℕ → Bool → Bool → List ℕ
    → Type 0
IsGood w definition mocks s None remarks passed good told = (told ≡ remarks) × (good ≡ passed)
IsGood w definition mocks s (Some least) remarks passed good told =
    IsCovered w definition mocks s least remarks passed good told

-- what is told of tests is any text; where that isn't wanted, it is none
abbrev pub AreRemarks : Bool → List ℕ → Type 0
AreRemarks true remarks = remarks ≡ []
AreRemarks false remarks = ⊤

-- those of the suite that the files may give, and what is told behind them
pub record IsReported (gives : List ℕ → List ℕ → Type 0) (quiet : Bool) (w : TestWords)
    (text told : List ℕ) (good : Bool) (junit json : List ℕ) : Type 0 where
  pub suite : Suite
  pub passed : Bool
  pub remarks : List ℕ
  pub is_in : IsSuiteIn gives w suite
  pub is_report : IsReport w suite text passed junit json
  pub are_remarks : AreRemarks quiet remarks
  pub is_good : IsGood w is_in.definition is_in.mocks suite w.coverage remarks passed good told

-- a line for each test of a file that the words choose, which are listed in place of being run
pub record IsListOf (expectations : List ℕ) (w : TestWords) (text : List ℕ) : Type 0 where
  pub all : List Draft
  pub are_all : IsExpectationsFile expectations all
  pub is_text : text ≡ list_text w.filter w.shard.first w.shard.apart all

-- the list of the tests that the files may give
pub record IsListing (gives : List ℕ → List ℕ → Type 0) (w : TestWords) (text : List ℕ) : Type 0 where
  pub definition : List ℕ
  pub mocks : List ℕ
  pub expectations : List ℕ
  pub given : AreSuiteTexts gives w definition mocks expectations
  pub is_list : IsListOf expectations w text

-- what is printed and told, whether all is good, and what stands in the files: a list, or the reports
abbrev pub IsShown : Bool → (List ℕ → List ℕ → Type 0) → Bool → TestWords → List ℕ → List ℕ → Bool
    → List ℕ → List ℕ → Type 0
IsShown true gives quiet w text told good junit json =
    IsListing gives w text × (told ≡ []) × (good ≡ true)
IsShown false gives quiet w text told good junit json =
    IsReported gives quiet w text told good junit json

-- ---- what is left

-- what is printed and told, the status where that can be done, and what files of these names are to hold in JUnit's
-- format and in JSON, unless tests are only listed
pub record Leaving : Type 0 where
  pub text : List ℕ
  pub remarks : List ℕ
  pub status : ℕ
  pub list : Bool
  pub junit_file : Option (List ℕ)
  pub junit : List ℕ
  pub json_file : Option (List ℕ)
  pub json : List ℕ

abbrev pub leaving_of : Left → Leaving
leaving_of l = record {
  text = l.text.now;
  remarks = l.remarks.now;
  status = l.status;
  list = l.list;
  junit_file = option_map (λ n. n.now) l.junit_file;
  junit = l.junit.now;
  json_file = option_map (λ n. n.now) l.json_file;
  json = l.json.now;
}

abbrev pub kept_file : Option (List ℕ) → List ℕ → List (List ℕ × List ℕ)
kept_file None text = []
kept_file (Some name) text = (name, text) ∷ []

-- the reports in JUnit's format and in JSON, each where a file is named for it; of a list none
abbrev pub kept_files : Leaving → List (List ℕ × List ℕ)
kept_files l = if l.list then [] else kept_file l.junit_file l.junit ++ kept_file l.json_file l.json

-- the file of this name can't be written
abbrev pub IsUnkept : Option (List ℕ) → CommandFault → Type 0
IsUnkept (Some wanted) (Output name why) = name.now ≡ wanted
IsUnkept wanted r = ⊥

-- the first of these files that can't be written, behind which none is written
abbrev pub IsFirstUnkept : {K : Type 0} → OutputUse K → Leaving → CommandFault → Type 0
IsFirstUnkept outputs l r =
    (IsUnkept l.junit_file r × Writes outputs [])
    ⊎ (IsUnkept l.json_file r × Writes outputs (kept_file l.junit_file l.junit))

-- all was written
abbrev pub IsKept : {K O E : Type 0} → OutputUse K → Io O E → Leaving → Type 0
IsKept outputs io l = Writes outputs (kept_files l) × Prints io l.text l.status × IsTold io.err l.remarks

-- a file wasn't written, which was told behind the rest, and the status is 2
abbrev pub IsKeptInPart : {K O E : Type 0} → OutputUse K → Io O E → Bool → Leaving → Type 0
IsKeptInPart outputs io quiet l =
    (r : CommandFault) × (t : List ℕ) × (printed : ℕ) × IsFirstUnkept outputs l r × Tells quiet r t
    × IsPrinted io.out l.text l.status printed × AreTold io.err l.remarks t × (io.status ≡ 2)

-- one or the other
abbrev pub IsLeft : {K O E : Type 0} → OutputUse K → Io O E → Bool → Leaving → Type 0
IsLeft outputs io quiet l = IsKept outputs io l ⊎ IsKeptInPart outputs io quiet l

-- what the test of these words leaves
abbrev pub leaving : TestWords → List ℕ → List ℕ → Bool → List ℕ → List ℕ → Leaving
leaving w text remarks good junit json = record {
  text = text;
  remarks = remarks;
  status = status_of good;
  list = w.list;
  junit_file = option_map (λ n. n.now) w.junit;
  junit = junit;
  json_file = option_map (λ n. n.now) w.json;
  json = json;
}

-- the test of these words: the reports were printed, or the list of the tests, something may have been told
-- behind them, the reports were written to the files that are named for them, and the status says whether
-- all tests are `ok`, and cover what they are to; or a fault was told, and the status is 2
abbrev pub IsTested : {K O E : Type 0} → FileSystem → OutputUse K → Io O E → Bool → TestWords → Type 0
IsTested files outputs io quiet w =
    ((text : List ℕ) × (remarks : List ℕ) × (good : Bool) × (junit : List ℕ) × (json : List ℕ)
    × IsShown w.list files.gives quiet w text remarks good junit json
    × IsLeft outputs io quiet (leaving w text remarks good junit json))
    ⊎ (IsUnused outputs × IsRefusedFor io quiet (IsUndone w.list files.gives files.lacks w))
