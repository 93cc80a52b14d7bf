-- The text of reports.
use Rattle.std.specs.Prelude.{ℕ, Bool, true, false, List, [], ◌∷◌, ◌++◌, ◌-◌, length, codes, count_by, Option, Some, None}
use Rattle.std.specs.List.{flat_map}
use Rattle.std.specs.Fmt.{decimal}
use Rattle.asl_text.specs.Shown.{shown}
use Rattle.asl_json_data.specs.Compact.{quoted}
use Rattle.asl_suite.specs.declared.case_report.CaseReport.{CaseReport}
use Rattle.asl_suite.specs.declared.case_report.Verdict.{Verdict}
use Rattle.asl_suite.specs.declared.case_report.Verdict.TheVariants.{NoCase, Limit, Status as WrongStatus, Output, Match, Error, Cause, Visits, Invocations, Calls, Endless, Cut, Unanswered, Accident, Passed}
use Rattle.asl_suite.specs.declared.case_report.Status.{Status}
use Rattle.asl_suite.specs.declared.case_report.Status.TheVariants.{None as NoStatus, Unfinished, Succeeded, Failed, TimedOut}

abbrev pub verdict_word : Verdict → List ℕ
verdict_word NoCase = codes "nocase"
verdict_word Limit = codes "limit"
verdict_word WrongStatus = codes "status"
verdict_word Output = codes "output"
verdict_word Match = codes "match"
verdict_word Error = codes "error"
verdict_word Cause = codes "cause"
verdict_word Visits = codes "visits"
verdict_word Invocations = codes "invocations"
verdict_word Calls = codes "calls"
verdict_word Endless = codes "endless"
verdict_word Cut = codes "cut"
verdict_word Unanswered = codes "unanswered"
verdict_word Accident = codes "accident"
verdict_word Passed = codes "ok"

abbrev pub status_word : Status → List ℕ
status_word NoStatus = codes "NONE"
status_word Unfinished = codes "UNFINISHED"
status_word Succeeded = codes "SUCCEEDED"
status_word Failed = codes "FAILED"
status_word TimedOut = codes "TIMED_OUT"

-- the verdict, and `MACHINE#CASE`, of which every character shows
abbrev pub report_head : CaseReport → List ℕ
report_head r = verdict_word r.verdict ++ 32 ∷ (shown r.machine ++ 35 ∷ shown r.case)

-- the name as a JSON text behind a space, if there is one
abbrev pub report_name : Option (List ℕ) → List ℕ
report_name None = []
report_name (Some t) = 32 ∷ quoted t

-- the status, the number of events, and the name
abbrev pub report_tail : CaseReport → List ℕ
report_tail r =
    status_word r.status ++ 32 ∷ (decimal r.events ++ (report_name r.name ++ 10 ∷ []))

abbrev pub report_line : CaseReport → List ℕ
report_line r = report_head r ++ 32 ∷ report_tail r

unfoldable pub is_good : Verdict → Bool
is_good Passed = true
is_good v = false

abbrev pub is_passed : CaseReport → Bool
is_passed r = is_good r.verdict

abbrev pub passed : List CaseReport → ℕ
passed rs = count_by is_passed rs

-- a line for each report, and how many passed and failed
abbrev pub report_text : List CaseReport → List ℕ
report_text rs =
    flat_map report_line rs
    ++ (decimal (passed rs) ++ (codes " passed, " ++ (decimal (length rs - passed rs)
    ++ (codes " failed" ++ 10 ∷ []))))
