-- What tests cover, as one JSON object.
use Rattle.std.specs.Prelude.{ℕ, suc, Bool, true, false, List, [], ◌∷◌, ◌++◌, length, codes}
use Rattle.std.specs.Fmt.{decimal}
use Rattle.asl_json_data.specs.Compact.{quoted, separator}
use Rattle.asl_suite_coverage.specs.declared.point.Point.{Point}
use Rattle.asl_suite_coverage.specs.declared.reporting.File.{File}
use Rattle.asl_suite_coverage.specs.declared.reporting.File.TheVariants.{Definition, Mocks}
use Rattle.asl_suite_coverage.specs.declared.siting.Sited.{Sited}
use Rattle.asl_suite_coverage.specs.Points.{covered, covered_in, is_covered, percent, points_in, told_of}

-- ---- how many are covered

unfoldable pub percent_member : ℕ → List ℕ
percent_member n = codes "\"percent\":" ++ decimal n

unfoldable pub covered_key : List ℕ
covered_key = codes ",\"covered\":"

abbrev pub covered_member : ℕ → List ℕ
covered_member n = covered_key ++ decimal n

unfoldable pub points_member : ℕ → List ℕ
points_member n = codes ",\"points\":" ++ decimal n

-- as "percent":82,"covered":34,"points":41
abbrev pub share_members : ℕ → ℕ → List ℕ
share_members n all = percent_member (percent n all) ++ (covered_member n ++ points_member all)

-- ---- a point

unfoldable pub pointer_key : List ℕ
pointer_key = codes "{\"pointer\":"

abbrev pub pointer_member : List ℕ → List ℕ
pointer_member p = pointer_key ++ quoted p

unfoldable pub line_member : ℕ → List ℕ
line_member n = codes ",\"line\":" ++ decimal n

unfoldable pub told_member : List ℕ → List ℕ
told_member t = codes ",\"point\":" ++ quoted t

abbrev pub truth : Bool → List ℕ
truth true = codes "true"
truth false = codes "false"

unfoldable pub point_end : List ℕ
point_end = codes "}"

abbrev pub truth_member : Bool → List ℕ
truth_member b = covered_key ++ (truth b ++ point_end)

-- as {"pointer":"/States/A","line":3,"point":"state \"A\"","covered":true}
abbrev pub point_object : Sited → List ℕ
point_object s =
    pointer_member s.pointer ++ (line_member s.line
    ++ (told_member (told_of s.point.now) ++ truth_member (is_covered s.point.now)))

-- counted from a number, with commas between
abbrev pub points_from : ℕ → List Sited → List ℕ
points_from i [] = []
points_from i (s ∷ ss) = separator i ++ (point_object s ++ points_from (suc i) ss)

-- ---- a file

-- what it is to a suite
abbrev pub role : File → List ℕ
role Definition = codes "definition"
role Mocks = codes "mocks"

unfoldable pub role_member : File → List ℕ
role_member f = codes "{\"role\":" ++ quoted (role f)

unfoldable pub name_member : List ℕ → List ℕ
name_member name = codes ",\"file\":" ++ (quoted name ++ codes ",")

unfoldable pub list_start : List ℕ
list_start = codes ",\"list\":["

unfoldable pub list_end : List ℕ
list_end = codes "]}"

-- how much of a file of this name is covered, and where each of its points stands
abbrev pub file_object : File → List ℕ → List Point → List Sited → List ℕ
file_object f name ps ss =
    role_member f ++ (name_member name ++ (share_members (covered_in f ps) (points_in f ps)
    ++ (list_start ++ (points_from 0 ss ++ list_end))))

-- ---- both

unfoldable pub text_start : List ℕ
text_start = codes "{"

unfoldable pub files_start : List ℕ
files_start = codes ",\"files\":["

unfoldable pub files_comma : List ℕ
files_comma = codes ","

unfoldable pub text_end : List ℕ
text_end = codes "]}\n"

-- over the names of the files, the points and where those of each file stand
abbrev pub json_text : List ℕ → List ℕ → List Point → List Sited → List Sited → List ℕ
json_text definition mocks ps ds ms =
    text_start ++ (share_members (covered ps) (length ps) ++ (files_start
    ++ (file_object Definition definition ps ds ++ (files_comma ++ (file_object Mocks mocks ps ms ++ text_end)))))
