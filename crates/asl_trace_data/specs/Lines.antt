-- The lines of stages.
use Rattle.std.specs.Prelude.{ℕ, Bool, false, List, [], ◌∷◌, ◌++◌, Option, Some, None, Ok, Err, codes, if◌then◌else◌}
use Rattle.std.specs.Result.{result_ok}
use Rattle.asl_json_data.specs.Compact.{compact}
use Rattle.asl_json.specs.Same.{equal}
use Rattle.asl_json.specs.View.{data_of}
use Rattle.asl_json.specs.declared.value.Json.{Json}
use Rattle.asl_text.specs.Shown.{shown}
use Rattle.asl_step.specs.Rows.{error_output}
use Rattle.asl_step_io.specs.Paths.{Given}
use Rattle.asl_trace_lines.specs.Columns.{padded}
use Rattle.asl_trace_data.specs.declared.part.Part.{Part}
use Rattle.asl_trace_data.specs.declared.part.Part.TheVariants.{Input, InputPath, Parameters, ItemsPath, ItemSelector, Choices, Delay, Result, ResultSelector, ResultPath, OutputPath, Output, Catch}
use Rattle.asl_trace_data.specs.declared.stage.Stage.{Stage}

-- what a stage is called: the member that makes it, where there is one
abbrev pub name_of : Part → List ℕ
name_of Input = codes "input"
name_of InputPath = codes "InputPath"
name_of Parameters = codes "Parameters"
name_of ItemsPath = codes "ItemsPath"
name_of ItemSelector = codes "ItemSelector"
name_of Choices = codes "Choices"
name_of Delay = codes "delay"
name_of Result = codes "result"
name_of ResultSelector = codes "ResultSelector"
name_of ResultPath = codes "ResultPath"
name_of OutputPath = codes "OutputPath"
name_of Output = codes "output"
name_of Catch = codes "Catch"

-- a whole value on one line, as a JSON text of which every character shows
abbrev pub whole : Json → List ℕ
whole v = shown (compact (data_of v))

abbrev pub given_text : Given → List ℕ
given_text (Ok v) = whole v
given_text (Err e) = codes "error " ++ whole (error_output e)

abbrev pub stage_line : List ℕ → Stage → List ℕ
stage_line lead s = lead ++ (padded 14 (name_of s.part) ++ (32 ∷ (given_text s.given ++ 10 ∷ [])))

-- whether a stage gives what the one before it gave
abbrev pub is_same : Option Json → Given → Bool
is_same (Some x) (Ok v) = equal (data_of x) (data_of v)
is_same (Some x) (Err e) = false
is_same None g = false

abbrev pub changed_line : List ℕ → Option Json → Stage → List ℕ
changed_line lead before s = if is_same before s.given then [] else stage_line lead s

-- a line for each stage that changes something, behind a stage that gave this
abbrev pub stages_text : List ℕ → Option Json → List Stage → List ℕ
stages_text lead before [] = []
stages_text lead before (s ∷ ss) =
    changed_line lead before s ++ stages_text lead (result_ok s.given) ss
