-- Reports as lines of JSON: an object for each test.
use Rattle.std.specs.Prelude.{ℕ, List, [], ◌∷◌, ◌++◌, codes, string_bytes, if◌then◌else◌, Option, Some, None}
use Rattle.std.specs.List.{flat_map}
use Rattle.std.specs.Fmt.{decimal}
use Rattle.asl_json_data.specs.Compact.{quoted}
use Rattle.asl_suite.specs.Reports.{verdict_word, status_word}
use Rattle.asl_suite.specs.declared.case_report.Search.{Search}
use Rattle.asl_suite.specs.declared.finding.Finding.{Finding}
use Rattle.asl_suite.specs.Findings.{is_good}

-- a member whose value is a text, behind a comma
abbrev pub text_member : List ℕ → List ℕ → List ℕ
text_member k t = 44 ∷ (quoted k ++ 58 ∷ quoted t)

abbrev pub name_member : Option (List ℕ) → List ℕ
name_member None = []
name_member (Some t) = text_member (codes "name") t

-- which test it is
unfoldable pub test_members : Finding → List ℕ
test_members f =
    codes "{\"test\":" ++ (decimal f.number ++ (text_member (codes "machine") f.report.now.machine
    ++ (text_member (codes "case") f.report.now.case ++ name_member f.report.now.name)))

-- what is reported of it
unfoldable pub report_members : Finding → List ℕ
report_members f =
    text_member (codes "verdict") (verdict_word f.report.now.verdict)
    ++ (text_member (codes "status") (status_word f.report.now.status)
    ++ (codes ",\"events\":" ++ decimal f.report.now.events))

-- how many outcomes and worlds were found where every order was tried
unfoldable pub search_members : Option Search → List ℕ
search_members None = []
search_members (Some s) =
    codes ",\"outcomes\":" ++ (decimal s.outcomes ++ (codes ",\"worlds\":" ++ decimal s.worlds))

-- why it isn't `ok`, and how it is run alone
abbrev pub reason_members : Finding → List ℕ
reason_members f =
    text_member (codes "difference") (string_bytes f.difference)
    ++ text_member (codes "alone") (string_bytes f.alone)

unfoldable pub maybe_reason : Finding → List ℕ
maybe_reason f = if is_good f then [] else reason_members f

-- as {"test":2,"machine":"M","case":"A","verdict":"ok","status":"SUCCEEDED","events":7}
abbrev pub json_line : Finding → List ℕ
json_line f =
    test_members f ++ (report_members f ++ (search_members f.report.now.search ++ (maybe_reason f ++ codes "}\n")))

abbrev pub json_text : List Finding → List ℕ
json_text fs = flat_map json_line fs
