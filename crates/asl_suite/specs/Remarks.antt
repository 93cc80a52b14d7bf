-- What is told of tests to people: a line for each that isn't `ok`, and one for each that may not mean what it says.
use Rattle.std.specs.Prelude.{ℕ, Bool, true, false, ◌&&◌, List, [], ◌∷◌, ◌++◌, codes, string_bytes, if◌then◌else◌}
use Rattle.std.specs.List.{flat_map}
use Rattle.std.specs.Fmt.{decimal}
use Rattle.asl_json_data.specs.Compact.{quoted}
use Rattle.asl_exec.specs.declared.lacking.Invocation.{Invocation}
use Rattle.asl_suite.specs.declared.case_report.Doubt.{Doubt}
use Rattle.asl_suite.specs.declared.case_report.Doubt.TheVariants as doubt
use Rattle.asl_suite.specs.declared.finding.Finding.{Finding}
use Rattle.asl_suite.specs.Findings.{is_good}
use Rattle.asl_suite.specs.Reports.{report_name}

-- as test 4 "M#A": output: wanted 2, came 1; a name stands behind the case
unfoldable pub test_head : Finding → List ℕ
test_head f =
    codes "test " ++ (decimal f.number
    ++ 32 ∷ (quoted (f.report.now.machine ++ 35 ∷ f.report.now.case)
    ++ (report_name f.report.now.name ++ codes ": ")))

abbrev pub remark_line : Finding → List ℕ
remark_line f = test_head f ++ (string_bytes f.difference ++ 10 ∷ [])

abbrev pub maybe_remark : Finding → List ℕ
maybe_remark f = if is_good f then [] else remark_line f

abbrev pub remarks_text : List Finding → List ℕ
remarks_text fs = flat_map maybe_remark fs

-- ---- doubts

-- which answer its run lacked, or in which error it failed
unfoldable pub unanswered_head : List ℕ
unanswered_head = codes "its run lacked an answer: no answer "

unfoldable pub task_head : List ℕ
task_head = codes " of the Task "

unfoldable pub unanswered_words : Invocation → List ℕ
unanswered_words v = unanswered_head ++ (decimal v.number ++ (task_head ++ quoted v.state))

unfoldable pub accident_head : List ℕ
accident_head = codes "it names no error, and failed by accident: "

unfoldable pub accident_words : List ℕ → List ℕ
accident_words n = accident_head ++ quoted n

abbrev pub doubt_words : Doubt → List ℕ
doubt_words doubt.None = []
doubt_words (doubt.Unanswered v) = unanswered_words v
doubt_words (doubt.Accident n) = accident_words n

-- as note: test 3 "M#C": its run lacked an answer: no answer 0 of the Task "T"
abbrev pub note_line : Finding → List ℕ
note_line f = codes "note: " ++ (test_head f ++ (doubt_words f.report.now.doubt ++ 10 ∷ []))

abbrev pub is_doubtful : Doubt → Bool
is_doubtful doubt.None = false
is_doubtful (doubt.Unanswered v) = true
is_doubtful (doubt.Accident n) = true

abbrev pub maybe_note : Finding → List ℕ
maybe_note f = if is_good f && is_doubtful f.report.now.doubt then note_line f else []

abbrev pub notes_text : List Finding → List ℕ
notes_text fs = flat_map maybe_note fs
