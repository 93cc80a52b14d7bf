-- What tests can cover, and what is told of it.
use Rattle.std.specs.Prelude.{ℕ, Bool, true, false, not, ◌||◌, ◌&&◌, List, [], ◌∷◌, ◌++◌, ◌≡◌, ◌*◌, ◌/◌, if◌then◌else◌, length, map, codes, count_by, Some, slice_get, nat_eq}
use Rattle.std.specs.List.{flat_map, list_any}
use Rattle.std.specs.Fmt.{decimal}
use Rattle.asl_suite_coverage.specs.declared.point.Point.{Point}
use Rattle.asl_suite_coverage.specs.declared.spot.Spot.{Spot}
use Rattle.asl_suite_coverage.specs.declared.spot.Part.{Part}
use Rattle.asl_suite_coverage.specs.declared.spot.Part.TheVariants.{Answer}
use Rattle.asl_suite_coverage.specs.declared.reporting.File.{File}
use Rattle.asl_suite_coverage.specs.declared.reporting.File.TheVariants.{Definition, Mocks}
use Rattle.asl_suite_coverage.specs.Spots.{same_spot}

abbrev pub is_covered : Point → Bool
is_covered p = p.covered

abbrev pub told_of : Point → List ℕ
told_of p = p.told

-- ---- covering

-- a point was covered, or is one of these
abbrev pub is_covered_by : List Spot → Point → Bool
is_covered_by ss p = p.covered || list_any (same_spot p.spot) ss

abbrev pub with_spots : List Spot → Point → Point
with_spots ss p = record p { covered = is_covered_by ss p }

-- the points are the same, and those that were covered still are
pub record IsMore (before after : List Point) : Type 0 where
  pub same : map told_of after ≡ map told_of before
  pub kept : (n : ℕ) → slice_get (map is_covered before) n ≡ Some true
      → slice_get (map is_covered after) n ≡ Some true

-- ---- what is told

-- how many are covered
abbrev pub covered : List Point → ℕ
covered ps = count_by is_covered ps

-- so many of all, as a whole percent, rounded down: 100 only where it is all
abbrev pub percent : ℕ → ℕ → ℕ
percent n all = if nat_eq all 0 then 100 else (n * 100) / all

abbrev pub percent_of : List Point → ℕ
percent_of ps = percent (covered ps) (length ps)

-- answers are points of the mock file, and all others of the definition
abbrev pub is_answer : Part → Bool
is_answer (Answer i) = true
is_answer _ = false

abbrev pub is_in : File → Point → Bool
is_in Mocks p = is_answer p.spot.part
is_in Definition p = not (is_answer p.spot.part)

abbrev pub is_covered_in : File → Point → Bool
is_covered_in f p = is_in f p && is_covered p

abbrev pub points_in : File → List Point → ℕ
points_in f ps = count_by (is_in f) ps

abbrev pub covered_in : File → List Point → ℕ
covered_in f ps = count_by (is_covered_in f) ps

unfoldable pub missing : List ℕ
missing = codes "not covered: "

abbrev pub told_line : Point → List ℕ
told_line p = p.told ++ 10 ∷ []

abbrev pub missing_line : Point → List ℕ
missing_line p = missing ++ told_line p

-- the line of a point, unless it is covered
abbrev pub point_line : Point → List ℕ
point_line p = if is_covered p then [] else missing_line p

-- as `82% (34 of 41)`
abbrev pub share : ℕ → ℕ → List ℕ
share n all =
    decimal (percent n all) ++ (codes "% (" ++ (decimal n
    ++ (codes " of " ++ (decimal all ++ (codes ")" ++ 10 ∷ [])))))

-- as `coverage: 82% (34 of 41)`
abbrev pub heading : List Point → List ℕ
heading ps = codes "coverage: " ++ share (covered ps) (length ps)

abbrev pub file_name : File → List ℕ
file_name Definition = codes "definition: "
file_name Mocks = codes "mock file: "

-- as `mock file: 73% (14 of 19)`
abbrev pub file_line : File → List Point → List ℕ
file_line f ps = file_name f ++ share (covered_in f ps) (points_in f ps)

abbrev pub coverage_text : List Point → List ℕ
coverage_text ps =
    heading ps ++ (file_line Definition ps ++ (file_line Mocks ps ++ flat_map point_line ps))
