-- The stages of a step of a state of each type, by the definitions of the table of states.
use Rattle.std.specs.Prelude.{ℕ, ◌+◌, Bool, true, false, List, [], ◌∷◌, ◌++◌, Option, Some, None, Result, Ok, Err, codes, if◌then◌else◌}
use Rattle.std.specs.Str.{bytes_eq}
use Rattle.std.specs.Result.{result_ok, result_err}
use Rattle.asl_json_data.specs.Results.{◌>>=◌}
use Rattle.asl_json_data.specs.Data.{Data}
use Rattle.asl_json.specs.View.{data_of}
use Rattle.asl_json.specs.Meaning.{value_in}
use Rattle.asl_json_shared.specs.Sharing.{items_in}
use Rattle.asl_json.specs.declared.value.Json.{Json}
use Rattle.asl_json.specs.declared.value.Json.TheVariants.{List as ListOf}
use Rattle.asl_mock.specs.Answers.{answer_to}
use Rattle.asl_mock.specs.declared.response.Answer.{Answer}
use Rattle.asl_mock.specs.declared.response.Answer.TheVariants.{Returns, Throws}
use Rattle.asl_def_shared.specs.Texts.{text_in}
use Rattle.asl_def_states.specs.Items.{selector_in}
use Rattle.asl_step.specs.declared.facts.Facts.{Facts}
use Rattle.asl_step.specs.declared.record.ErrorOut.{ErrorOut}
use Rattle.asl_step.specs.Context.{context_of}
use Rattle.asl_step.specs.Records.{name_in, entering_with, beginning_with, pausing_with}
use Rattle.asl_step.specs.Rows.{is_within_limit, over_limit}
use Rattle.asl_step.specs.Seen.{Seen}
use Rattle.asl_step_io.specs.Paths.{Given, taken}
use Rattle.asl_step_io.specs.Reason.{GivenText}
use Rattle.asl_kinds.specs.Members.{effective, effective_by, result_or, pass_output, passed_on, selected, no_answer, fail_error, chosen_target, GivenTarget, choice_output, until_in}
use Rattle.asl_kinds.specs.Forks.{forked_with, first_error, outputs, listed, item_input}
use Rattle.asl_trace_data.specs.declared.part.Part.{Part}
use Rattle.asl_trace_data.specs.declared.part.Part.TheVariants.{Input, InputPath, ItemsPath, ItemSelector, Choices, Delay, Result as Answered}
use Rattle.asl_trace_data.specs.declared.stage.Stage.{Stage}
use Rattle.asl_trace_data.specs.Stages.{one, onward, stage, failing_stage, effective_stages, output_stages, placed_stages, selected_stages, left, settled}

-- the effective input of a state
abbrev pub effective_of : Data → Json → Data → List Stage
effective_of d x c =
    effective_stages (value_in (codes "InputPath") d) (value_in (codes "Parameters") d) x c

-- what becomes of a result
abbrev pub selected_of : Data → Json → Data → Json → List Stage
selected_of d x c r =
    selected_stages (value_in (codes "ResultSelector") d) (value_in (codes "ResultPath") d)
    (value_in (codes "OutputPath") d) x c r

-- ---- Pass

-- by InputPath, Parameters, Result, ResultPath and OutputPath
abbrev pub pass_by : Option Data → Option Data → Option Data → Option Data → Option Data → Json
    → Data → List Stage
pass_by input parameters answer path output x c =
    (one Input (Ok x) ++ effective_stages input parameters x c)
    ++ onward (λ y. one Answered (Ok (result_or answer y))
    ++ placed_stages path output x c (result_or answer y))
    (result_ok (effective_by input parameters x c))

abbrev pub pass_stages : Data → Json → Data → List Stage
pass_stages d x c =
    pass_by (value_in (codes "InputPath") d) (value_in (codes "Parameters") d)
    (value_in (codes "Result") d) (value_in (codes "ResultPath") d) (value_in (codes "OutputPath") d)
    x c

abbrev pub pass_step : Data → Facts → Seen → Option Json → List Stage
pass_step d f v None = []
pass_step d f v (Some x) =
    left (pass_stages d x (context_of f v)) (result_ok (pass_output d x (context_of f v)))

-- ---- Succeed, and a Wait that is over

abbrev pub passing_by : Option Data → Option Data → Json → Data → List Stage
passing_by input output x c =
    one Input (Ok x)
    ++ stage InputPath (taken (codes "InputPath") input x c) (λ y. output_stages output y c)

abbrev pub passing_stages : Data → Json → Data → List Stage
passing_stages d x c =
    passing_by (value_in (codes "InputPath") d) (value_in (codes "OutputPath") d) x c

abbrev pub passing_step : Data → Facts → Seen → Option Json → List Stage
passing_step d f v None = []
passing_step d f v (Some x) =
    left (passing_stages d x (context_of f v)) (result_ok (passed_on d x (context_of f v)))

-- ---- Choice

-- by the state where it goes on
abbrev pub target_stages : Data → Json → Data → GivenText → List Stage
target_stages d y c (Ok t) = output_stages (value_in (codes "OutputPath") d) y c
target_stages d y c (Err e) = one Choices (Err e)

abbrev pub choice_stages : Data → Json → Data → List Stage
choice_stages d x c =
    one Input (Ok x)
    ++ stage InputPath (taken (codes "InputPath") (value_in (codes "InputPath") d) x c) (λ y.
    target_stages d y c (chosen_target d (data_of y) c))

-- whether there is one
abbrev pub is_found : GivenText → Bool
is_found (Ok t) = true
is_found (Err e) = false

-- what it goes on with
abbrev pub chosen_in : GivenTarget → Option Json
chosen_in (Ok g) = Some g.1
chosen_in (Err e) = None

abbrev pub choice_step : Data → Facts → Seen → Option Json → List Stage
choice_step d f v None = []
choice_step d f v (Some x) =
    left (choice_stages d x (context_of f v)) (chosen_in (choice_output d x (context_of f v)))

-- ---- Wait

-- of a Wait that is entered now
abbrev pub waiting_stages : Data → ℕ → Json → Data → List Stage
waiting_stages d now x c =
    one Input (Ok x)
    ++ stage InputPath (taken (codes "InputPath") (value_in (codes "InputPath") d) x c) (λ y.
    failing_stage Delay (result_err (until_in d now (data_of y) c)))

abbrev pub wait_step : Data → Facts → Seen → Option Json → List Stage
wait_step d f v None = passing_step d f v (pausing_with v.current)
wait_step d f v (Some x) = waiting_stages d v.moment x (context_of f v)

-- ---- Fail

abbrev pub fail_step : Data → Facts → Seen → Option Json → List Stage
fail_step d f v None = []
fail_step d f v (Some x) =
    one Input (Ok x) ++ one Answered (Err (fail_error d (data_of x) (context_of f v)))

-- ---- Task

-- what the service answers by the test case
abbrev pub answered : Option Answer → Given
answered (Some (Returns r)) = if is_within_limit r then Ok r else Err over_limit
answered (Some (Throws error cause)) = Err (record { error = Some error; cause = cause })
answered None = Err no_answer

abbrev pub answer_of : Seen → Given
answer_of v = answered (answer_to v.case (name_in v.current) v.count)

abbrev pub answer_stages : Data → Json → Data → Given → List Stage
answer_stages d x c g = stage Answered g (selected_of d x c)

-- by InputPath and Parameters, and by what says what becomes of the answer
abbrev pub task_by : Option Data → Option Data → Data → Json → Data → Given → List Stage
task_by input parameters d x c g =
    (one Input (Ok x) ++ effective_stages input parameters x c)
    ++ onward (λ y. answer_stages d x c g) (result_ok (effective_by input parameters x c))

abbrev pub task_stages : Data → Json → Data → Given → List Stage
task_stages d x c g =
    task_by (value_in (codes "InputPath") d) (value_in (codes "Parameters") d) d x c g

abbrev pub task_output : Data → Json → Data → Given → Given
task_output d x c g = do
  y ← effective d x c
  g >>= selected d x c

-- these stages, and those behind the error or the output that they end with, by the state's Retry
-- and its Catch
abbrev pub settled_of : Data → Seen → Json → List Stage → Option Json → List Stage
settled_of d v x ss output =
    settled (value_in (codes "Retry") d) (value_in (codes "Catch") d) v x ss output

abbrev pub task_step : Data → Facts → Seen → Option Json → List Stage
task_step d f v None = []
task_step d f v (Some x) =
    settled_of d v x (task_stages d x (context_of f v) (answer_of v))
    (result_ok (task_output d x (context_of f v) (answer_of v)))

-- ---- branches that have ended

-- the error of the first that failed, or the list of their outputs
abbrev pub joined_given : Option ErrorOut → Option (List Data) → Option Given
joined_given (Some e) ds = Some (Err e)
joined_given None (Some ds) = Some (Ok (ListOf ds))
joined_given None None = None

abbrev pub joined_by : Data → Seen → Json → Data → Option Given → List Stage
joined_by d v x c None = []
joined_by d v x c (Some g) =
    settled_of d v x (one Input (Ok x) ++ answer_stages d x c g)
    (result_ok (g >>= selected d x c))

abbrev pub join_step : Data → Facts → Seen → Option Json → List Stage
join_step d f v None = []
join_step d f v (Some x) =
    joined_by d v x (context_of f v) (joined_given (first_error v.children) (outputs v.children))

-- ---- Parallel

abbrev pub parallel_step : Data → Facts → Seen → Option Json → List Stage
parallel_step d f v None = join_step d f v (forked_with v.current)
parallel_step d f v (Some x) =
    settled_of d v x (one Input (Ok x) ++ effective_of d x (context_of f v)) None

-- ---- Map

-- a list of items that a Map can go over
abbrev pub list_by : Json → Result (List Data) ErrorOut → Given
list_by z (Ok ds) = Ok z
list_by z (Err e) = Err e

abbrev pub items_given : Given → Given
items_given g = do
  z ← g
  list_by z (listed z)

-- the inputs of the iterations over these items, numbered from i, or the error of the first that
-- can't be made
abbrev pub input_before : Given → Result (List Data) ErrorOut → Result (List Data) ErrorOut
input_before (Err e) others = Err e
input_before (Ok x) (Err e) = Err e
input_before (Ok x) (Ok ds) = Ok (data_of x ∷ ds)

abbrev pub inputs : Data → Json → Facts → Seen → ℕ → List Data → Result (List Data) ErrorOut
inputs t y f v i [] = Ok []
inputs t y f v i (d ∷ ds) =
    input_before (item_input (Some t) y f v i d) (inputs t y f v (i + 1) ds)

abbrev pub inputs_given : Result (List Data) ErrorOut → Given
inputs_given (Ok ds) = Ok (ListOf ds)
inputs_given (Err e) = Err e

abbrev pub selector_stages : Option Data → Json → Facts → Seen → Json → List Stage
selector_stages None y f v z = []
selector_stages (Some t) y f v z =
    one ItemSelector (inputs_given (inputs t y f v 0 (items_in z)))

-- by ItemsPath, and by the template
abbrev pub items_stages : Option Data → Option Data → Facts → Seen → Json → List Stage
items_stages items selector f v y =
    stage ItemsPath (items_given (taken (codes "ItemsPath") items y (context_of f v)))
    (selector_stages selector y f v)

abbrev pub map_by : Option Data → Option Data → Option Data → Facts → Seen → Json → List Stage
map_by input items selector f v x =
    one Input (Ok x)
    ++ stage InputPath (taken (codes "InputPath") input x (context_of f v))
    (items_stages items selector f v)

abbrev pub map_stages : Data → Facts → Seen → Json → List Stage
map_stages d f v x =
    map_by (value_in (codes "InputPath") d) (value_in (codes "ItemsPath") d) (selector_in d) f v x

abbrev pub map_step : Data → Facts → Seen → Option Json → List Stage
map_step d f v None = join_step d f v (forked_with v.current)
map_step d f v (Some x) = settled_of d v x (map_stages d f v x) None

-- ---- a state of any type

abbrev pub stages_by : Option (List ℕ) → Data → Facts → Seen → List Stage
stages_by (Some t) d f v =
    if bytes_eq t (codes "Pass") then pass_step d f v (entering_with v.current)
    else if bytes_eq t (codes "Succeed") then passing_step d f v (entering_with v.current)
    else if bytes_eq t (codes "Fail") then fail_step d f v (entering_with v.current)
    else if bytes_eq t (codes "Choice") then choice_step d f v (entering_with v.current)
    else if bytes_eq t (codes "Wait") then wait_step d f v (entering_with v.current)
    else if bytes_eq t (codes "Task") then task_step d f v (beginning_with v.current)
    else if bytes_eq t (codes "Parallel") then parallel_step d f v (beginning_with v.current)
    else if bytes_eq t (codes "Map") then map_step d f v (beginning_with v.current)
    else []
stages_by None d f v = []

-- the stages of a step of the state of this object
abbrev pub stages_of : Data → Facts → Seen → List Stage
stages_of d f v = stages_by (text_in (value_in (codes "Type") d)) d f v
