-- What a step makes of its state's data, stage by stage: an input, what a member of the state makes of
-- it, and so on to the output, or to an error (ASL, "Input and Output Processing"; Step Functions API
-- Reference, "InspectionData").
use Rattle.std.specs.Prelude.{ℕ, List, [], ◌∷◌, ◌++◌, Option, Some, None, Result, Err, codes, if◌then◌else◌}
use Rattle.std.specs.Option.{option_or}
use Rattle.std.specs.Result.{result_ok, result_err}
use Rattle.asl_json_data.specs.Data.{Data}
use Rattle.asl_json.specs.declared.value.Json.{Json}
use Rattle.asl_handle.specs.Decisions.{Handling, again, caught, unhandled, decision}
use Rattle.asl_json.specs.Meaning.{value_in}
use Rattle.asl_step.specs.declared.record.ErrorOut.{ErrorOut}
use Rattle.asl_step.specs.Records.{uses_in, error_name}
use Rattle.asl_step.specs.Rows.{error_output, is_within_limit, over_limit}
use Rattle.asl_step.specs.Seen.{Seen}
use Rattle.asl_step_io.specs.Paths.{Given, taken, put_into}
use Rattle.asl_step_io.specs.Payload.{filled}
use Rattle.asl_trace_data.specs.declared.part.Part.{Part}
use Rattle.asl_trace_data.specs.declared.part.Part.TheVariants.{InputPath, Parameters, ResultSelector, ResultPath, OutputPath, Output, Catch}
use Rattle.asl_trace_data.specs.declared.stage.Stage.{Stage}

-- the value that is given, where there is one
-- the error that is raised, where one is
-- ---- one stage behind another

abbrev pub one : Part → Given → List Stage
one p g = record { part = p; given = g } ∷ []

-- the stages that begin with a value; none where there is none
abbrev pub onward : (Json → List Stage) → Option Json → List Stage
onward rest None = []
onward rest (Some v) = rest v

-- a stage, and those that begin with what it gives
abbrev pub stage : Part → Given → (Json → List Stage) → List Stage
stage p g rest = one p g ++ onward rest (result_ok g)

-- a stage that raises an error; none where there is none
abbrev pub failing_stage : Part → Option ErrorOut → List Stage
failing_stage p None = []
failing_stage p (Some e) = one p (Err e)

-- the error of the first stage that raises one
abbrev pub raised_in : List Stage → Option ErrorOut
raised_in [] = None
raised_in (s ∷ ss) = option_or (result_err s.given) (raised_in ss)

-- ---- pieces that several kinds share, with the Context Object c

-- the effective input: what InputPath takes of the raw input x, then what Parameters makes of that
abbrev pub effective_stages : Option Data → Option Data → Json → Data → List Stage
effective_stages path parameters x c =
    stage InputPath (taken (codes "InputPath") path x c) (λ y. one Parameters (filled parameters y c))

-- what OutputPath takes
abbrev pub output_stages : Option Data → Json → Data → List Stage
output_stages output z c = one OutputPath (taken (codes "OutputPath") output z c)

-- a result r put into the raw input, and what OutputPath takes of that
abbrev pub placed_stages : Option Data → Option Data → Json → Data → Json → List Stage
placed_stages path output x c r =
    stage ResultPath (put_into path x r) (λ z. output_stages output z c)

-- what ResultSelector makes of a result, and where it is placed
abbrev pub selected_stages : Option Data → Option Data → Option Data → Json → Data → Json
    → List Stage
selected_stages selector path output x c r =
    stage ResultSelector (filled selector r c) (λ s. placed_stages path output x c s)

-- ---- how a state is left

-- an output above the data limit is an error
abbrev pub limit_stages : Json → List Stage
limit_stages z = if is_within_limit z then [] else one Output (Err over_limit)

-- the catcher puts the error into the raw input
abbrev pub caught_by : Json → ErrorOut → Handling → List Stage
caught_by x e (again i until) = []
caught_by x e (caught c) =
    stage Catch (put_into (value_in (codes "ResultPath") c) x (error_output e)) limit_stages
caught_by x e unhandled = []

-- by the state's Retry and its Catch
abbrev pub caught_stages : Option Data → Option Data → Seen → Json → Option ErrorOut → List Stage
caught_stages retry catch v x None = []
caught_stages retry catch v x (Some e) =
    caught_by x e (decision retry catch (error_name e) (uses_in v.current) v.moment)

-- these stages, and those behind the error or the output that they end with
abbrev pub left : List Stage → Option Json → List Stage
left ss output = ss ++ onward limit_stages output

abbrev pub settled : Option Data → Option Data → Seen → Json → List Stage → Option Json
    → List Stage
settled retry catch v x ss output =
    (ss ++ caught_stages retry catch v x (raised_in ss)) ++ onward limit_stages output
