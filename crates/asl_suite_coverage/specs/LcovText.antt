-- What tests cover, as a tracefile of LCOV (geninfo(1), "Tracefile format").
use Rattle.std.specs.Prelude.{ℕ, suc, Bool, true, false, ◌&&◌, List, [], ◌∷◌, ◌++◌, length, count_by, codes, if◌then◌else◌, nat_eq, nat_lt}
use Rattle.std.specs.List.{flat_map, list_any}
use Rattle.std.specs.Fmt.{decimal}
use Rattle.asl_suite_coverage.specs.declared.tracefile.Line.{Line}
use Rattle.asl_suite_coverage.specs.declared.siting.Sited.{Sited}
use Rattle.asl_suite_coverage.specs.declared.spot.Part.{Part}
use Rattle.asl_suite_coverage.specs.declared.spot.Part.TheVariants.{State, Next, Rule, Default, Retrier, Catcher, Answer}
use Rattle.asl_suite_coverage.specs.Points.{is_covered}

-- a number behind this word, on a line
unfoldable pub count_line : List ℕ → ℕ → List ℕ
count_line word n = word ++ (decimal n ++ codes "\n")

-- ---- branches

-- one of several ways on from a state
abbrev pub is_branch : Part → Bool
is_branch State = false
is_branch Next = false
is_branch (Rule i) = true
is_branch Default = true
is_branch (Retrier i) = true
is_branch (Catcher i) = true
is_branch (Answer i) = false

abbrev pub is_way : Sited → Bool
is_way s = is_branch s.point.now.spot.part

abbrev pub is_way_taken : Sited → Bool
is_way_taken s = is_way s && is_covered s.point.now

abbrev pub taken : Bool → List ℕ
taken true = codes "1\n"
taken false = codes "0\n"

unfoldable pub branch_place : ℕ → List ℕ
branch_place line = codes "BRDA:" ++ decimal line

unfoldable pub branch_number : ℕ → List ℕ
branch_number i = codes ",0," ++ decimal i

unfoldable pub branch_end : Bool → List ℕ
branch_end b = codes "," ++ taken b

-- as BRDA:12,0,3,1
abbrev pub branch_start : ℕ → Sited → List ℕ
branch_start i s = branch_place s.line ++ (branch_number i ++ branch_end (is_covered s.point.now))

-- a way on has its number among the points of its file
abbrev pub branch_line : ℕ → Sited → List ℕ
branch_line i s = if is_way s then branch_start i s else []

abbrev pub branch_lines : ℕ → List Sited → List ℕ
branch_lines i [] = []
branch_lines i (s ∷ ss) = branch_line i s ++ branch_lines (suc i) ss

abbrev pub branches_found : List Sited → List ℕ
branches_found ss =
    count_line (codes "BRF:") (count_by is_way ss) ++ count_line (codes "BRH:") (count_by is_way_taken ss)

-- ---- lines

abbrev pub stands_on : ℕ → Sited → Bool
stands_on line s = nat_eq s.line line

abbrev pub is_covered_on : ℕ → Sited → Bool
is_covered_on line s = stands_on line s && is_covered s.point.now

abbrev pub covered_on : ℕ → List Sited → ℕ
covered_on line ss = count_by (is_covered_on line) ss

-- the line of this number, of all these points
abbrev pub line_on : List Sited → ℕ → Line
line_on all line = record { number = line; covered = covered_on line all }

-- that of a point, unless one of these behind it stands there, too
abbrev pub line_at : List Sited → Sited → List Sited → List Line
line_at all s behind = if list_any (stands_on s.line) behind then [] else line_on all s.line ∷ []

-- those of some of all points, each once: where the last of its points is
abbrev pub lines_among : List Sited → List Sited → List Line
lines_among all [] = []
lines_among all (s ∷ ss) = line_at all s ss ++ lines_among all ss

abbrev pub is_hit : Line → Bool
is_hit l = nat_lt 0 l.covered

abbrev pub hits : List Line → ℕ
hits ls = count_by is_hit ls

unfoldable pub line_place : ℕ → List ℕ
line_place n = codes "DA:" ++ decimal n

-- as DA:12,1
abbrev pub line_line : Line → List ℕ
line_line l = line_place l.number ++ count_line (codes ",") l.covered

abbrev pub lines_found : List Line → List ℕ
lines_found ls = count_line (codes "LF:") (length ls) ++ count_line (codes "LH:") (hits ls)

-- ---- records

unfoldable pub begin_record : List ℕ → List ℕ
begin_record name = codes "TN:\nSF:" ++ (name ++ codes "\n")

unfoldable pub end_record : List ℕ
end_record = codes "end_of_record\n"

-- of a file of this name, of whose points these are
abbrev pub record_text : List ℕ → List Sited → List ℕ
record_text name ss =
    begin_record name ++ (branch_lines 0 ss ++ (branches_found ss
    ++ (flat_map line_line (lines_among ss ss) ++ (lines_found (lines_among ss ss) ++ end_record))))

-- over the names of the files, and the points of each
abbrev pub lcov_text : List ℕ → List ℕ → List Sited → List Sited → List ℕ
lcov_text definition mocks ds ms = record_text definition ds ++ record_text mocks ms
