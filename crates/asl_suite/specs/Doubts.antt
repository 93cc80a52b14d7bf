-- Why a test that is `ok` may not mean what it says.
use Rattle.std.specs.Prelude.{ℕ, Bool, ◌||◌, if◌then◌else◌, List, codes, Option, Some, None}
use Rattle.asl_json.specs.Same.{bytes_eq}
use Rattle.asl_mock.specs.Answers.{Case}
use Rattle.asl_run_state.specs.World.{World}
use Rattle.asl_run_state.specs.declared.outcome.Outcome.{Outcome}
use Rattle.asl_run_state.specs.declared.outcome.Outcome.TheVariants.{Failed}
use Rattle.asl_exec.specs.Lacking.{unanswered_in}
use Rattle.asl_exec.specs.declared.lacking.Invocation.{Invocation}
use Rattle.asl_suite_file.specs.declared.expectation.Expectation.{Expectation}
use Rattle.asl_suite_file.specs.declared.expectation.WantedText.{WantedText}
use Rattle.asl_suite_file.specs.declared.expectation.WantedText.TheVariants.{Any, Absent, Text}
use Rattle.asl_suite.specs.declared.case_report.Doubt.{Doubt}
use Rattle.asl_suite.specs.declared.case_report.Doubt.TheVariants as doubt
use Rattle.asl_suite.specs.declared.case_report.Verdict.{Verdict}
use Rattle.asl_suite.specs.declared.case_report.Verdict.TheVariants as verdict

-- an error that the definition or the data run into, and that no state machine means to end in
abbrev pub is_accident_name : List ℕ → Bool
is_accident_name n =
    bytes_eq n (codes "States.Runtime") || (bytes_eq n (codes "States.ParameterPathFailure")
    || (bytes_eq n (codes "States.IntrinsicFailure")
    || (bytes_eq n (codes "States.ResultPathMatchFailure")
    || bytes_eq n (codes "States.DataLimitExceeded"))))

abbrev pub accident_named : Option (List ℕ) → Doubt
accident_named None = doubt.None
accident_named (Some n) = if is_accident_name n then doubt.Accident n else doubt.None

-- a test that names no error is met by it, too
abbrev pub accident_in : WantedText → Option (List ℕ) → Doubt
accident_in Any n = accident_named n
accident_in Absent n = doubt.None
accident_in (Text w) n = doubt.None

abbrev pub accident_on : Expectation → Outcome → Doubt
accident_on x (Failed e) = accident_in x.end.error e.error
accident_on x _ = doubt.None

abbrev pub unless_unanswered : Option Invocation → Doubt → Doubt
unless_unanswered None d = d
unless_unanswered (Some v) d = doubt.Unanswered v

-- its run failed since its case has no answer, or by accident
abbrev pub doubt_on : Expectation → Case → World → Doubt
doubt_on x c w = unless_unanswered (unanswered_in c w) (accident_on x w.outcome)

-- of a test with this verdict; there is none of one that isn't `ok`
abbrev pub doubt_of : Verdict → Doubt → Doubt
doubt_of verdict.Passed d = d
doubt_of v d = doubt.None

-- the verdict where a doubt is a failure
abbrev pub strict_verdict : Doubt → Verdict → Verdict
strict_verdict doubt.None v = v
strict_verdict (doubt.Unanswered u) v = verdict.Unanswered
strict_verdict (doubt.Accident n) v = verdict.Accident
