-- A history in the shape in which the service tells one (Step Functions API Reference,
-- GetExecutionHistory): an object with the list of its events, in which inputs and outputs are texts.
use Rattle.std.specs.Prelude.{ℕ, suc, Bool, false, List, [], ◌∷◌, ◌++◌, Option, Some, None, if◌then◌else◌, codes}
use Rattle.std.specs.Fmt.{decimal}
use Rattle.asl_json_data.specs.Data.{Data, text}
use Rattle.asl_json.specs.View.{data_of}
use Rattle.asl_json.specs.Meaning.{value_in}
use Rattle.asl_json.specs.Same.{bytes_eq}
use Rattle.asl_json_data.specs.Compact.{compact, quoted, separator}
use Rattle.asl_history.specs.declared.event.Event.{Event}
use Rattle.asl_history.specs.Kinds.{kind_name}
use Rattle.asl_time.specs.StampText.{stamp_of}
use Rattle.asl_history_formats.specs.declared.details.Form.{Form}
use Rattle.asl_history_formats.specs.declared.details.Form.TheVariants.{Nothing, Input, Output, StateInput, StateOutput, Parameters, Resource, TaskOutput, TaskError, Error, Length, Iteration}
use Rattle.asl_history_formats.specs.Keys.{stamp_key, previous_key}
use Rattle.asl_history_formats.specs.Details.{form_of, details_name}
use Rattle.asl_history_formats.specs.Resources.{resource_type, resource_name}
use Rattle.asl_history_formats.specs.declared.tasks.Limits.{Limits}
use Rattle.asl_history_formats.specs.Tasks.{TaskTable}

-- ---- details

unfoldable pub truncated : List ℕ
truncated = codes "Details\":{\"truncated\":false}"

-- a value as the text of a member of this name, and that nothing of it was cut off
abbrev pub said : List ℕ → Data → List ℕ
said k d =
    34 ∷ (k ++ (codes "\":" ++ (quoted (compact d) ++ (codes ",\"" ++ (k ++ truncated)))))

-- the name of the state, with a comma behind
abbrev pub named : Event → List ℕ
named e = codes "\"name\":" ++ (quoted e.name ++ 44 ∷ [])

-- what an error output tells: each member where it is there
abbrev pub error_details : Option Data → Option Data → List ℕ
error_details (Some e) (Some c) =
    codes "\"error\":" ++ (compact e ++ (codes ",\"cause\":" ++ compact c))
error_details (Some e) None = codes "\"error\":" ++ compact e
error_details None (Some c) = codes "\"cause\":" ++ compact c
error_details None None = []

-- behind what stands before
unfoldable pub and_error : Option Data → Option Data → List ℕ
and_error None None = []
and_error e c = 44 ∷ error_details e c

-- a member of the event's body, where it is there
abbrev pub number_member : List ℕ → Option Data → List ℕ
number_member k (Some d) = 34 ∷ (k ++ (codes "\":" ++ compact d))
number_member k None = []

unfoldable pub parameters_key : List ℕ
parameters_key = codes "\"parameters\":"

-- what a Task is called with
abbrev pub parameters_told : Data → List ℕ
parameters_told d = parameters_key ++ quoted (compact d)

-- a Map's name, and the number of the iteration
abbrev pub iteration_told : Event → List ℕ
iteration_told e =
    named e ++ number_member (codes "index") (value_in (codes "index") (data_of e.body))

-- what a Task of this resource calls
unfoldable pub resource_told : List ℕ → List ℕ
resource_told r =
    codes "\"resourceType\":"
    ++ (quoted (resource_type r) ++ (codes ",\"resource\":" ++ quoted (resource_name r)))

-- in which region
unfoldable pub region_told : List ℕ → List ℕ
region_told region = codes ",\"region\":" ++ (quoted region ++ codes ",")

-- a limit of so many seconds behind what stands before
unfoldable pub seconds_told : List ℕ → ℕ → List ℕ
seconds_told k n = codes ",\"" ++ (k ++ (codes "InSeconds\":" ++ decimal n))

-- where there is one
abbrev pub limit_told : List ℕ → Option ℕ → List ℕ
limit_told k (Some n) = seconds_told k n
limit_told k None = []

-- how long a Task may take
unfoldable pub limits_told : Limits → List ℕ
limits_told l = limit_told (codes "timeout") l.timeout ++ limit_told (codes "heartbeat") l.heartbeat

-- how a Task is called: of this resource, in this region, with these limits and this
unfoldable pub scheduled_told : List ℕ → List ℕ → Limits → Data → List ℕ
scheduled_told r region l d =
    resource_told r ++ (region_told region ++ (parameters_told d ++ limits_told l))

-- over the table of Tasks
abbrev pub details_inside : TaskTable → Form → Event → List ℕ
details_inside ts Nothing e = []
details_inside ts Input e = said (codes "input") (data_of e.body)
details_inside ts Output e = said (codes "output") (data_of e.body)
details_inside ts StateInput e = named e ++ said (codes "input") (data_of e.body)
details_inside ts StateOutput e = named e ++ said (codes "output") (data_of e.body)
details_inside ts Parameters e =
    scheduled_told (ts.resource e.name) ts.region (ts.limits e.name) (data_of e.body)
details_inside ts Resource e = resource_told (ts.resource e.name)
details_inside ts TaskOutput e =
    resource_told (ts.resource e.name) ++ 44 ∷ said (codes "output") (data_of e.body)
details_inside ts TaskError e =
    resource_told (ts.resource e.name)
    ++ and_error (value_in (codes "Error") (data_of e.body)) (value_in (codes "Cause") (data_of e.body))
details_inside ts Error e =
    error_details (value_in (codes "Error") (data_of e.body)) (value_in (codes "Cause") (data_of e.body))
details_inside ts Length e = number_member (codes "length") (value_in (codes "length") (data_of e.body))
details_inside ts Iteration e = iteration_told e

-- an error says that a Task took too long
abbrev pub is_timeout : Option Data → Bool
is_timeout (Some (text t)) = bytes_eq t (codes "States.Timeout")
is_timeout _ = false

-- a Task that took too long is an event of another type than one that failed otherwise
abbrev pub has_timed_out : Form → Event → Bool
has_timed_out TaskError e = is_timeout (value_in (codes "Error") (data_of e.body))
has_timed_out _ e = false

unfoldable pub details_key : Form → Event → List ℕ
details_key f e =
    if has_timed_out f e then codes "taskTimedOutEventDetails" else details_name e.kind

-- a member with details of this form
abbrev pub details_part : TaskTable → Form → Event → List ℕ
details_part ts Nothing e = []
details_part ts f e =
    codes ",\"" ++ (details_key f e ++ (codes "\":{" ++ (details_inside ts f e ++ 125 ∷ [])))

-- ---- events

unfoldable pub type_name : Form → Event → List ℕ
type_name f e = if has_timed_out f e then codes "TaskTimedOut" else kind_name e.kind

abbrev pub event_kind : Event → List ℕ
event_kind e =
    123 ∷ (stamp_key
    ++ (stamp_of e.at ++ (codes "\",\"type\":\"" ++ type_name (form_of e.kind) e)))

abbrev pub event_numbers : Event → List ℕ
event_numbers e = codes "\",\"id\":" ++ (decimal e.id ++ (previous_key ++ decimal e.previous))

abbrev pub event_head : Event → List ℕ
event_head e = event_kind e ++ event_numbers e

abbrev pub event_object : TaskTable → Event → List ℕ
event_object ts e = event_head e ++ (details_part ts (form_of e.kind) e ++ 125 ∷ [])

-- the events from this number on, with commas between
abbrev pub events_from : TaskTable → ℕ → List Event → List ℕ
events_from ts i [] = []
events_from ts i (e ∷ es) = separator i ++ (event_object ts e ++ events_from ts (suc i) es)

-- over the table of Tasks
abbrev pub aws_text : TaskTable → List Event → List ℕ
aws_text ts events =
    codes "{\"events\":[" ++ (events_from ts 0 events ++ (codes "]}" ++ 10 ∷ []))
