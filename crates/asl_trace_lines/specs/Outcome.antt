-- What became of a state in a step, and where its branch goes on.
use Rattle.std.specs.Prelude.{ℕ, ◌-◌, Bool, List, [], ◌∷◌, ◌++◌, Option, Some, None, if◌then◌else◌, codes}
use Rattle.std.specs.Str.{bytes_eq}
use Rattle.std.specs.Fmt.{decimal}
use Rattle.asl_json_diff.specs.Shown.{name_text}
use Rattle.asl_step.specs.declared.record.Record.{Record}
use Rattle.asl_step.specs.declared.record.Record.TheVariants.{New, Ready, Pausing, Again, Forked, Done, Failed}
use Rattle.asl_step.specs.declared.record.ErrorOut.{ErrorOut}
use Rattle.asl_trace_lines.specs.Seen.{Seen, error_in}
use Rattle.asl_trace_lines.specs.Columns.{elapsed}
use Rattle.asl_trace_lines.specs.Handling.{decision_on, decided_text, failed_text}

-- ---- what became of it

abbrev pub error_text : Option (List ℕ) → List ℕ
error_text None = codes "failed"
error_text (Some n) = codes "failed " ++ name_text n

abbrev pub rule_text : Option ℕ → List ℕ
rule_text None = codes "default"
rule_text (Some i) = codes "rule " ++ decimal i

-- a state that was left without an error
abbrev pub left_text : Seen → List ℕ
left_text v =
    if bytes_eq v.kind (codes "Task") then codes "returned"
    else if bytes_eq v.kind (codes "Choice") then rule_text v.rule
    else if bytes_eq v.kind (codes "Parallel") then codes "joined"
    else if bytes_eq v.kind (codes "Map") then codes "joined"
    else if bytes_eq v.kind (codes "Wait") then codes "waited"
    else if bytes_eq v.kind (codes "Succeed") then codes "succeeded"
    else codes "passed"

abbrev pub forked_text : Seen → List ℕ
forked_text v =
    decimal v.branches
    ++ (if bytes_eq v.kind (codes "Map") then codes " iterations" else codes " branches")

abbrev pub outcome_by : Seen → Option ErrorOut → Record → List ℕ
outcome_by v (Some e) r = error_text e.error
outcome_by v None (New n x) = left_text v
outcome_by v None (Ready n x) = left_text v
outcome_by v None (Pausing n x since until) = codes "waits"
outcome_by v None (Again n x since uses until) = error_text None
outcome_by v None (Forked n x since uses items) = forked_text v
outcome_by v None (Done x) = left_text v
outcome_by v None (Failed e) = error_text None

abbrev pub outcome_text : Seen → List ℕ
outcome_text v = outcome_by v (error_in v.raised v.after) v.after

-- ---- where its branch goes on

abbrev pub onward : List ℕ → List ℕ
onward n = codes "-> " ++ name_text n

-- what decided on an error, and where that leads
abbrev pub handled_text : Seen → Option ErrorOut → List ℕ → List ℕ
handled_text v None there = there
handled_text v (Some e) there = decided_text v e (decision_on v e) ++ 32 ∷ there

abbrev pub retry_text : Seen → Option ErrorOut → List ℕ
retry_text v None = []
retry_text v (Some e) = decided_text v e (decision_on v e)

abbrev pub goes_by : Seen → Record → List ℕ
goes_by v (New n x) = handled_text v v.raised (onward n)
goes_by v (Ready n x) = handled_text v v.raised (onward n)
goes_by v (Pausing n x since until) = codes "until " ++ elapsed (until - v.start)
goes_by v (Again n x since uses until) = retry_text v v.raised
goes_by v (Forked n x since uses items) = []
goes_by v (Done x) = codes "end"
goes_by v (Failed e) = failed_text v e

abbrev pub goes_text : Seen → List ℕ
goes_text v = goes_by v v.after
