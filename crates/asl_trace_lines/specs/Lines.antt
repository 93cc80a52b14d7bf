-- The lines of a step.
use Rattle.std.specs.Prelude.{ℕ, Bool, List, [], ◌∷◌, ◌++◌, Option, Some, None, if◌then◌else◌, codes}
use Rattle.std.specs.Str.{bytes_eq}
use Rattle.std.specs.Fmt.{decimal}
use Rattle.asl_json_data.specs.Data.{text}
use Rattle.asl_json.specs.View.{data_of}
use Rattle.asl_json.specs.declared.value.Json.{Json}
use Rattle.asl_json_diff.specs.Shown.{name_text, short}
use Rattle.asl_json_diff.specs.Changes.{changes}
use Rattle.asl_step.specs.Records.{name_in}
use Rattle.asl_step.specs.declared.record.ErrorOut.{ErrorOut}
use Rattle.asl_trace_lines.specs.Seen.{Seen, error_in, input_in, output_in}
use Rattle.asl_trace_lines.specs.Columns.{lead, under, state_column, ended}
use Rattle.asl_trace_lines.specs.Outcome.{outcome_text, goes_text}

-- the type of the state; behind Task, how often it was invoked before
abbrev pub kind_text : Seen → List ℕ
kind_text v =
    if bytes_eq v.kind (codes "Task") then (v.kind ++ (32 ∷ decimal v.count)) else v.kind

-- name and type
abbrev pub state_text : Seen → List ℕ
state_text v = name_text (name_in v.before) ++ (codes "  " ++ kind_text v)

-- time, place, name and type; what became of the state; and where its branch goes on
abbrev pub row : Seen → List ℕ
row v =
    lead v.start v.now v.place
    ++ (state_column v.place (state_text v) ++ (32 ∷ (ended (outcome_text v) (goes_text v) ++ 10 ∷ [])))

-- ---- what belongs to it

abbrev pub cause_of : List ℕ → Option (List ℕ) → List ℕ
cause_of l None = []
cause_of l (Some c) = l ++ (codes "cause " ++ (short (text c) ++ 10 ∷ []))

-- the cause of an error, where it has one
abbrev pub cause_line : List ℕ → Option ErrorOut → List ℕ
cause_line l None = []
cause_line l (Some e) = cause_of l e.cause

-- what is otherwise in the output of a state than in its raw input, where it was left
abbrev pub data_lines : List ℕ → Option Json → Option Json → List ℕ
data_lines l (Some x) (Some z) = changes l [] (data_of x) (data_of z)
data_lines l (Some x) None = []
data_lines l None z = []

abbrev pub happening_text : Seen → List ℕ
happening_text v =
    row v
    ++ (cause_line (under v.place) (error_in v.raised v.after)
    ++ data_lines (under v.place) (input_in v.before) (output_in v.after))

-- ---- other lines

-- a branch that was stopped in the state of this name
abbrev pub stopped_line : ℕ → ℕ → List ℕ → List ℕ → List ℕ
stopped_line start now p n =
    lead start now p ++ (state_column p (name_text n) ++ codes " stopped\n")

-- the time of the execution was over
abbrev pub timed_out_line : ℕ → ℕ → List ℕ
timed_out_line start now = lead start now [] ++ codes "timed out\n"
