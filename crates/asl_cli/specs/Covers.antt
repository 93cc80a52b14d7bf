-- What the tests of a suite cover.
use Rattle.std.specs.Prelude.{ℕ, ◌≡◌, List, [], ◌∷◌, map, filter, Option, Some, None}
use Rattle.std.specs.List.{All}
use Rattle.asl_json_data.specs.Data.{Data}
use Rattle.asl_json_data.specs.Reads.{ReadsAs}
use Rattle.asl_run_input.specs.declared.setup.Setup.{Setup}
use Rattle.asl_suite_coverage.specs.declared.point.Point.{Point}
use Rattle.asl_suite_coverage.specs.Covered.{run_spots}
use Rattle.asl_suite_coverage.specs.Listed.{all_points}
use Rattle.asl_suite_coverage.specs.Points.{with_spots, is_in}
use Rattle.asl_suite_coverage.specs.JsonText.{json_text}
use Rattle.asl_suite_coverage.specs.LcovText.{lcov_text}
use Rattle.asl_suite_coverage.specs.Sites.{point_of, IsLined}
use Rattle.asl_suite_coverage.specs.declared.reporting.File.{File}
use Rattle.asl_suite_coverage.specs.declared.reporting.File.TheVariants.{Definition, Mocks}
use Rattle.asl_suite_coverage.specs.declared.siting.Sited.{Sited}
use Rattle.asl_suite_file.specs.declared.expectation.Expectation.{Expectation}
use Rattle.asl_suite.specs.Cases.{setup_in}
use Rattle.asl_suite.specs.declared.suite.Suite.{Suite}
use Rattle.asl_words.specs.declared.words.TestWords.{TestWords}

-- a test whose case the mock file hasn't covers nothing
abbrev pub with_test : Data → Expectation → Option Setup → List Point → List Point
with_test mocks x None ps = ps
with_test mocks x (Some setup) ps = map (with_spots (run_spots mocks x.case setup x.steps)) ps

abbrev pub with_tests : Suite → Data → List Expectation → List Point → List Point
with_tests s mocks [] ps = ps
with_tests s mocks (x ∷ xs) ps = with_tests s mocks xs (with_test mocks x (setup_in s x) ps)

-- the points of its definition and of its mock file: those are covered that a test covers
abbrev pub suite_points : Suite → Data → List Point
suite_points s mocks = with_tests s mocks s.tests.list.items (all_points s.machine mocks)

-- of the mock file that bytes spell
abbrev pub ArePointsOf : List ℕ → Suite → List Point → Type 0
ArePointsOf mocks s ps = (d : Data) → ReadsAs mocks d → ps ≡ suite_points s d

-- ---- for other programs

-- those of a file, each on a line on which a value begins in the text that its bytes spell
pub record AreSites (f : File) (b : List ℕ) (ps : List Point) (ss : List Sited) : Type 0 where
  pub points : map point_of ss ≡ filter (is_in f) ps
  pub lines : (d : Data) → ReadsAs b d → All (λ (s : Sited). IsLined b d s.line) ss

-- what is told of the points of a definition and a mock file of these bytes, which have the names that the words say
abbrev pub IsJsonTold : TestWords → List ℕ → List ℕ → List Point → List ℕ → Type 0
IsJsonTold w definition mocks ps told =
    (ds : List Sited) × (ms : List Sited) × AreSites Definition definition ps ds × AreSites Mocks mocks ps ms
    × (told ≡ json_text w.definition.now w.mocks.now ps ds ms)

abbrev pub IsLcovTold : TestWords → List ℕ → List ℕ → List Point → List ℕ → Type 0
IsLcovTold w definition mocks ps told =
    (ds : List Sited) × (ms : List Sited) × AreSites Definition definition ps ds × AreSites Mocks mocks ps ms
    × (told ≡ lcov_text w.definition.now w.mocks.now ds ms)
