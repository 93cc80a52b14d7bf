-- What states show: their canonical objects, over the states that stand before them in the table.
use Rattle.std.specs.Prelude.{ℕ, suc, List, [], ◌∷◌, ◌++◌, Option, Some, None, codes, map, string_bytes, String, option_map}
use Rattle.asl_json_data.specs.Data.{Data, number, text, list, dict, chain, pairs}
use Rattle.asl_json.specs.View.{data_of}
use Rattle.asl_def_schema.specs.Canon.{Named}
use Rattle.asl_def_fields.specs.declared.processor.ProcessorConfig.{ProcessorConfig}
use Rattle.asl_def_fields.specs.Shown.{path_shown, path_or_call_shown}
use Rattle.asl_def_states.specs.declared.task.Task.{Task as TaskState}
use Rattle.asl_def_states.specs.declared.pass.Pass.{Pass as PassState}
use Rattle.asl_def_states.specs.declared.choice.Choice.{Choice as ChoiceState}
use Rattle.asl_def_states.specs.declared.wait.Wait.{Wait as WaitState}
use Rattle.asl_def_states.specs.declared.wait.Delay.{Delay}
use Rattle.asl_def_states.specs.declared.wait.Delay.TheVariants as delay
use Rattle.asl_def_states.specs.declared.parallel.Parallel.{Parallel as ParallelState}
use Rattle.asl_def_states.specs.declared.map.Map.{Map as MapState}
use Rattle.asl_def_states.specs.declared.processor.Selector.{Selector}
use Rattle.asl_def_states.specs.declared.processor.Selector.TheVariants.{Parameters, ItemSelector}
use Rattle.asl_def_states.specs.declared.processor.Processor.{Processor}
use Rattle.asl_def_states.specs.declared.processor.Processor.TheVariants.{Iterator, ItemProcessor}
use Rattle.asl_def_states.specs.declared.succeed.Succeed.{Succeed as SucceedState}
use Rattle.asl_def_states.specs.declared.fail.Fail.{Fail as FailState}
use Rattle.asl_def_states.specs.declared.fail.FailText.{FailText}
use Rattle.asl_def_states.specs.declared.fail.FailText.TheVariants.{Told, At}
use Rattle.asl_def_states.specs.declared.state.State.{State}
use Rattle.asl_def_states.specs.declared.state.State.TheVariants.{Task, Pass, Choice, Wait, Parallel, Map, Succeed, Fail}
use Rattle.asl_def_states.specs.declared.choice.ChoiceRule.{ChoiceRule}
use Rattle.asl_def_shared.specs.Parts.{Slots, object, next_shown, end_shown, limits_members, common_members, completion_members}
use Rattle.asl_def_shared.specs.declared.body.Body.{Body}
use Rattle.asl_def_shared.specs.Bodies.{bodies_of, processor_of, IsWithin, AreWithin}

-- ---- states without machines

abbrev pub task_members : TaskState → Slots
task_members t =
    common_members (codes "Task") t.common ++
    ((codes "Resource", Some (text t.resource))
    ∷ (codes "InputPath", path_shown t.input_path)
    ∷ (codes "Parameters", t.parameters)
    ∷ (codes "Credentials", option_map data_of t.credentials)
    ∷ (limits_members t.limits ++ completion_members t.completion))

abbrev pub pass_members : PassState → Slots
pass_members p =
    common_members (codes "Pass") p.common ++
    ((codes "InputPath", path_shown p.input_path)
    ∷ (codes "Parameters", p.parameters)
    ∷ (codes "Result", option_map data_of p.result)
    ∷ (codes "ResultPath", path_shown p.result_path)
    ∷ (codes "OutputPath", path_shown p.output_path)
    ∷ (codes "Next", next_shown p.next)
    ∷ (codes "End", end_shown p.next)
    ∷ [])

-- a rule with what comes next
abbrev pub choice_rule_object : ChoiceRule → Data
choice_rule_object r = dict (pairs (r.rule ++ (codes "Next", text r.next.name) ∷ []))

abbrev pub choice_rule_objects : List ChoiceRule → List Data
choice_rule_objects rs = map choice_rule_object rs

abbrev pub choice_members : ChoiceState → Slots
choice_members c =
    common_members (codes "Choice") c.common ++
    ((codes "InputPath", path_shown c.input_path)
    ∷ (codes "Choices", Some (list (chain c.choices)))
    ∷ (codes "Default", option_map (λ x. text x.name) c.default)
    ∷ (codes "OutputPath", path_shown c.output_path)
    ∷ [])

-- exactly one of the four is there
abbrev pub seconds_shown : Delay → Option Data
seconds_shown (delay.Seconds n) = Some (number n)
seconds_shown _ = None

abbrev pub seconds_path_shown : Delay → Option Data
seconds_path_shown (delay.SecondsPath p) = Some (text p)
seconds_path_shown _ = None

abbrev pub timestamp_shown : Delay → Option Data
timestamp_shown (delay.Timestamp t) = Some (text t)
timestamp_shown _ = None

abbrev pub timestamp_path_shown : Delay → Option Data
timestamp_path_shown (delay.TimestampPath p) = Some (text p)
timestamp_path_shown _ = None

abbrev pub wait_members : WaitState → Slots
wait_members w =
    common_members (codes "Wait") w.common ++
    ((codes "InputPath", path_shown w.input_path)
    ∷ (codes "Seconds", seconds_shown w.delay)
    ∷ (codes "SecondsPath", seconds_path_shown w.delay)
    ∷ (codes "Timestamp", timestamp_shown w.delay)
    ∷ (codes "TimestampPath", timestamp_path_shown w.delay)
    ∷ (codes "OutputPath", path_shown w.output_path)
    ∷ (codes "Next", next_shown w.next)
    ∷ (codes "End", end_shown w.next)
    ∷ [])

abbrev pub succeed_members : SucceedState → Slots
succeed_members s =
    common_members (codes "Succeed") s.common ++
    ((codes "InputPath", path_shown s.input_path)
    ∷ (codes "OutputPath", path_shown s.output_path)
    ∷ [])

-- a text, or where it is found
abbrev pub told : Option FailText → Option Data
told None = None
told (Some (Told t)) = Some (text t)
told (Some (At p)) = None

abbrev pub told_at : Option FailText → Option Data
told_at None = None
told_at (Some (Told t)) = None
told_at (Some (At p)) = Some (path_or_call_shown p)

abbrev pub fail_members : FailState → Slots
fail_members f =
    common_members (codes "Fail") f.common ++
    ((codes "Error", told f.error)
    ∷ (codes "ErrorPath", told_at f.error)
    ∷ (codes "Cause", told f.cause)
    ∷ (codes "CausePath", told_at f.cause)
    ∷ [])

-- ---- machines, and states that hold them

abbrev pub parallel_members : List Named → ParallelState → Slots
parallel_members t p =
    common_members (codes "Parallel") p.common ++
    ((codes "InputPath", path_shown p.input_path)
    ∷ (codes "Parameters", p.parameters)
    ∷ (codes "Branches", Some (list (chain (bodies_of t p.branches))))
    ∷ completion_members p.completion)

-- the template for the inputs of iterations is there under one name at most
abbrev pub parameters_shown : Option Selector → Option Data
parameters_shown None = None
parameters_shown (Some (Parameters x)) = Some x
parameters_shown (Some (ItemSelector x)) = None

abbrev pub item_selector_shown : Option Selector → Option Data
item_selector_shown None = None
item_selector_shown (Some (Parameters x)) = None
item_selector_shown (Some (ItemSelector x)) = Some x

abbrev pub selector_shown : Option Selector → Option Data
selector_shown None = None
selector_shown (Some (Parameters x)) = Some x
selector_shown (Some (ItemSelector x)) = Some x

-- the machine of a Map, with what is said of how it is run
abbrev pub body_in : Processor → Body
body_in (Iterator b) = b
body_in (ItemProcessor c b) = b

abbrev pub config_in : Processor → Option ProcessorConfig
config_in (Iterator b) = None
config_in (ItemProcessor c b) = c

abbrev pub machine_shown : List Named → Processor → Data
machine_shown t p = processor_of t (config_in p) (body_in p)

-- a value under the one name or the other
abbrev pub as_iterator : Processor → Data → Option Data
as_iterator (Iterator b) d = Some d
as_iterator (ItemProcessor c b) d = None

abbrev pub as_item_processor : Processor → Data → Option Data
as_item_processor (Iterator b) d = None
as_item_processor (ItemProcessor c b) d = Some d

abbrev pub map_members : List Named → MapState → Slots
map_members t m =
    common_members (codes "Map") m.common ++
    ((codes "InputPath", path_shown m.input_path)
    ∷ (codes "ItemsPath", option_map text m.items_path)
    ∷ (codes "MaxConcurrency", option_map number m.max_concurrency)
    ∷ (codes "Parameters", parameters_shown m.selector)
    ∷ (codes "ItemSelector", item_selector_shown m.selector)
    ∷ (codes "Iterator", as_iterator m.processor (machine_shown t m.processor))
    ∷ (codes "ItemProcessor", as_item_processor m.processor (machine_shown t m.processor))
    ∷ completion_members m.completion)

-- the canonical members of a state, over the states that stand before it
abbrev pub state_members : List Named → State → Slots
state_members t (Task x) = task_members x
state_members t (Pass x) = pass_members x
state_members t (Choice x) = choice_members x
state_members t (Wait x) = wait_members x
state_members t (Parallel x) = parallel_members t x
state_members t (Map x) = map_members t x
state_members t (Succeed x) = succeed_members x
state_members t (Fail x) = fail_members x

abbrev pub state_of : List Named → State → Data
state_of t s = object (state_members t s)

-- ---- canonical objects of states of one type

abbrev pub task_object : TaskState → Data
task_object x = object (task_members x)

abbrev pub pass_object : PassState → Data
pass_object x = object (pass_members x)

abbrev pub choice_object : ChoiceState → Data
choice_object x = object (choice_members x)

abbrev pub wait_object : WaitState → Data
wait_object x = object (wait_members x)

abbrev pub succeed_object : SucceedState → Data
succeed_object x = object (succeed_members x)

abbrev pub fail_object : FailState → Data
fail_object x = object (fail_members x)

abbrev pub parallel_object : List Named → ParallelState → Data
parallel_object t x = object (parallel_members t x)

abbrev pub map_object : List Named → MapState → Data
map_object t x = object (map_members t x)

-- ---- the table

-- the machines inside a state stand among the first n states
abbrev pub StateIsWithin : ℕ → State → Type 0
StateIsWithin n (Parallel x) = AreWithin n x.branches
StateIsWithin n (Map x) = IsWithin n (body_in x.processor)
StateIsWithin n s = Unit {0}

-- each state in turn, over those before it
abbrev pub shown : {Z : Type 0} → List Named → List (String Z × State) → List Named
shown t [] = t
shown t (e ∷ es) = shown (t ++ (string_bytes e.0, state_of t e.1) ∷ []) es

-- inner machines stand before the states that hold them
abbrev pub AreInOrder : {Z : Type 0} → ℕ → List (String Z × State) → Type 0
AreInOrder n [] = Unit {0}
AreInOrder n (e ∷ es) = StateIsWithin n e.1 × AreInOrder (suc n) es
