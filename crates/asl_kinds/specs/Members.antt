-- What a state gives and where it goes on, by the members of its object.
use Rattle.std.specs.Prelude.{ℕ, ◌*◌, List, [], Option, Some, None, option_map, Result, Ok, Err, codes, ok_or}
use Rattle.asl_json_data.specs.Results.{◌>>=◌}
use Rattle.asl_json_data.specs.Data.{Data, text, list}
use Rattle.asl_json.specs.View.{data_of, json_of, unchained}
use Rattle.asl_json.specs.Meaning.{value_in}
use Rattle.asl_json.specs.declared.value.Json.{Json}
use Rattle.asl_def_shared.specs.Texts.{text_in}
use Rattle.asl_handle.specs.Decisions.{delayed}
use Rattle.asl_step.specs.declared.record.ErrorOut.{ErrorOut}
use Rattle.asl_choice.specs.Truth.{Fault, missing, open_escape}
use Rattle.asl_def_states.specs.Choosing.{chosen_next}
use Rattle.asl_step_io.specs.Paths.{Given, taken, put_into, failure, no_value}
use Rattle.asl_step_io.specs.Delay.{seconds_of, moment_of, seconds_at, moment_at}
use Rattle.asl_step_io.specs.Payload.{filled}
use Rattle.asl_step_io.specs.Reason.{GivenText, text_at}

-- the state that comes next, none where the state ends its branch
abbrev pub next_in : Data → Option (List ℕ)
next_in d = text_in (value_in (codes "Next") d)

-- the values of a list; none where it is absent
abbrev pub values_in : Option Data → List Data
values_in (Some (list ds)) = unchained ds
values_in _ = []

-- ---- what several kinds make, of the raw input x, with the Context Object c

-- what InputPath takes, then what Parameters makes of it
abbrev pub effective_by : Option Data → Option Data → Json → Data → Given
effective_by path parameters x c = do
  y ← taken (codes "InputPath") path x c
  filled parameters y c

-- the effective input
abbrev pub effective : Data → Json → Data → Given
effective d x c =
    effective_by (value_in (codes "InputPath") d) (value_in (codes "Parameters") d) x c

-- a result put into the raw input, and what OutputPath takes of that
abbrev pub placed_by : Option Data → Option Data → Json → Data → Json → Given
placed_by path output x c r = do
  z ← put_into path x r
  taken (codes "OutputPath") output z c

abbrev pub placed : Data → Json → Data → Json → Given
placed d x c r = placed_by (value_in (codes "ResultPath") d) (value_in (codes "OutputPath") d) x c r

-- ---- Pass

-- Result, or the effective input where there is none
abbrev pub result_or : Option Data → Json → Json
result_or None y = y
result_or (Some r) y = json_of r

-- the effective input; the result, and where it is placed
abbrev pub pass_output : Data → Json → Data → Given
pass_output d x c = do
  y ← effective d x c
  placed d x c (result_or (value_in (codes "Result") d) y)

-- ---- Task, and states that fork

-- what ResultSelector makes of a result, and where it is placed
abbrev pub selected_by : Option Data → Option Data → Option Data → Json → Data → Json → Given
selected_by selector path output x c r = do
  s ← filled selector r c
  placed_by path output x c s

abbrev pub selected : Data → Json → Data → Json → Given
selected d x c r =
    selected_by (value_in (codes "ResultSelector") d) (value_in (codes "ResultPath") d)
    (value_in (codes "OutputPath") d) x c r

-- no answer of the test case is for this invocation
abbrev pub no_answer : ErrorOut
no_answer = failure (codes "States.Runtime") (codes "no mocked answer")

-- ---- Succeed, and a Wait that is over

-- what OutputPath takes of the effective input
abbrev pub passed_on : Data → Json → Data → Given
passed_on d x c = do
  y ← taken (codes "InputPath") (value_in (codes "InputPath") d) x c
  taken (codes "OutputPath") (value_in (codes "OutputPath") d) y c

-- ---- Choice

-- why it can't be said which rule holds
abbrev pub undecided : Fault → ErrorOut
undecided (missing path) = no_value path
undecided open_escape = failure (codes "States.Runtime") (codes "StringMatches: open escape")

abbrev pub no_choice : ErrorOut
no_choice = failure (codes "States.NoChoiceMatched") (codes "no rule holds")

-- the state of Next where a rule holds, else of Default
abbrev pub target_by : Option Data → Result (Option Data) Fault → GivenText
target_by default (Err f) = Err (undecided f)
target_by default (Ok None) = ok_or (text_in default) no_choice
target_by default (Ok (Some next)) = ok_or (text_in (Some next)) no_choice

abbrev pub chosen_target : Data → Data → Data → GivenText
chosen_target d y c =
    target_by (value_in (codes "Default") d)
    (chosen_next (values_in (value_in (codes "Choices") d)) y c)

-- where a Choice goes on, and with what
abbrev pub GivenTarget : Type 0
GivenTarget = Result (List ℕ × Json) ErrorOut

abbrev pub target_with : GivenText → Given → GivenTarget
target_with (Err e) g = Err e
target_with (Ok t) (Err e) = Err e
target_with (Ok t) (Ok z) = Ok (t, z)

abbrev pub choice_by : Data → Data → Given → GivenTarget
choice_by d c (Err e) = Err e
choice_by d c (Ok y) =
    target_with (chosen_target d (data_of y) c)
    (taken (codes "OutputPath") (value_in (codes "OutputPath") d) y c)

-- the target by the effective input, then what OutputPath takes of that
abbrev pub choice_output : Data → Json → Data → GivenTarget
choice_output d x c = choice_by d c (taken (codes "InputPath") (value_in (codes "InputPath") d) x c)

-- ---- Wait

-- a moment, or the error that is raised
abbrev pub GivenMoment : Type 0
GivenMoment = Result ℕ ErrorOut

abbrev pub moment_or : ErrorOut → Option ℕ → GivenMoment
moment_or e None = Err e
moment_or e (Some m) = Ok m

-- so many seconds later, or the last moment
abbrev pub later : ℕ → ℕ → ℕ
later now seconds = delayed now (seconds * 1000)

-- until when a Wait waits that was entered now: by the one of the four members that is there
abbrev pub until_by : Option Data → Option (List ℕ) → Option Data → Option (List ℕ) → ℕ → Data
    → Data → GivenMoment
until_by (Some s) sp t tp now y c =
    moment_or (no_value (codes "Seconds")) (option_map (later now) (seconds_of s))
until_by None (Some p) t tp now y c =
    moment_or (no_value (codes "SecondsPath")) (option_map (later now) (seconds_at p y c))
until_by None None (Some t) tp now y c = moment_or (no_value (codes "Timestamp")) (moment_of t)
until_by None None None (Some p) now y c =
    moment_or (no_value (codes "TimestampPath")) (moment_at p y c)
until_by None None None None now y c = Err (no_value (codes "Seconds"))

abbrev pub until_in : Data → ℕ → Data → Data → GivenMoment
until_in d now y c =
    until_by (value_in (codes "Seconds") d) (text_in (value_in (codes "SecondsPath") d))
    (value_in (codes "Timestamp") d) (text_in (value_in (codes "TimestampPath") d)) now y c

abbrev pub wait_by : Data → ℕ → Data → Given → GivenMoment
wait_by d now c (Err e) = Err e
wait_by d now c (Ok y) = until_in d now (data_of y) c

-- the same by the raw input
abbrev pub wait_until : Data → ℕ → Json → Data → GivenMoment
wait_until d now x c =
    wait_by d now c (taken (codes "InputPath") (value_in (codes "InputPath") d) x c)

-- ---- Fail

-- a text or none, or the error that is raised in its place
abbrev pub GivenReason : Type 0
GivenReason = Result (Option (List ℕ)) ErrorOut

abbrev pub some_text : GivenText → GivenReason
some_text (Ok t) = Ok (Some t)
some_text (Err e) = Err e

-- the text that stands there; else the one that a field's path or call gives; none where there is
-- neither
abbrev pub reason_by : List ℕ → Option (List ℕ) → Option (List ℕ) → Data → Data → GivenReason
reason_by field (Some t) at x c = Ok (Some t)
reason_by field None (Some at) x c = some_text (text_at field at x c)
reason_by field None None x c = Ok None

abbrev pub error_with : Option (List ℕ) → GivenReason → Result ErrorOut ErrorOut
error_with error (Ok cause) = Ok (record { error = error; cause = cause })
error_with error (Err e) = Err e

abbrev pub error_and : GivenReason → GivenReason → Result ErrorOut ErrorOut
error_and (Ok error) cause = error_with error cause
error_and (Err e) cause = Err e

abbrev pub either : Result ErrorOut ErrorOut → ErrorOut
either (Ok e) = e
either (Err e) = e

-- the error that a Fail names: first its name, then its cause; what can't be found is an error of
-- its own
abbrev pub fail_error : Data → Data → Data → ErrorOut
fail_error d x c = either (error_and
    (reason_by (codes "ErrorPath") (text_in (value_in (codes "Error") d))
    (text_in (value_in (codes "ErrorPath") d)) x c)
    (reason_by (codes "CausePath") (text_in (value_in (codes "Cause") d))
    (text_in (value_in (codes "CausePath") d)) x c))
