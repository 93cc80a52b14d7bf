-- The Context Object (Step Functions Developer Guide, "Accessing execution data from the Context
-- object").
use Rattle.std.specs.Prelude.{ℕ, if◌then◌else◌, pos, List, [], ◌∷◌, ◌++◌, ◌≡◌, codes, min, sum, ◌^◌, ◌-◌, Option, None, Some}
use Rattle.std.specs.Fmt.{decimal, signed_decimal}
use Rattle.asl_json_data.specs.Data.{Data, number, text, dict, pairs}
use Rattle.asl_json.specs.View.{data_of}
use Rattle.asl_json.specs.declared.value.Json.{Json}
use Rattle.asl_json.specs.declared.value.Json.TheVariants.{Dict}
use Rattle.asl_time.specs.StampText.{stamp_of}
use Rattle.asl_step.specs.declared.facts.Facts.{Facts}
use Rattle.asl_step.specs.declared.record.Record.{Record}
use Rattle.asl_step.specs.Records.{name_in, entered_at, uses_in}
use Rattle.asl_step.specs.Seen.{Seen}

-- ---- what is fixed

abbrev pub execution_id : Facts → List ℕ
execution_id f = codes "execution:" ++ (f.machine ++ (codes ":" ++ f.name))

abbrev pub execution_of : Facts → Data
execution_of f =
    dict (pairs ((codes "Id", text (execution_id f)) ∷ (codes "Name", text f.name)
    ∷ (codes "Input", data_of f.input) ∷ (codes "StartTime", text (stamp_of f.start)) ∷ []))

abbrev pub state_machine_of : Facts → Data
state_machine_of f =
    dict (pairs ((codes "Id", text (codes "stateMachine:" ++ f.machine))
    ∷ (codes "Name", text f.machine) ∷ []))

-- ---- what each step changes

-- how often the state's retriers were used, up to the greatest number that JSON spells here
abbrev pub retry_count : List ℕ → ℕ
retry_count uses = min (sum uses) (10 ^ 18 - 1)

abbrev pub state_of : ℕ → Record → Data
state_of now r =
    dict (pairs ((codes "Name", text (name_in r))
    ∷ (codes "EnteredTime", text (stamp_of (entered_at now r)))
    ∷ (codes "RetryCount", number (signed_decimal (pos (retry_count (uses_in r))))) ∷ []))

-- ---- what an iteration of a Map has besides: its number and its item

abbrev pub item_of : ℕ × Data → Data
item_of i =
    dict (pairs ((codes "Index", number (signed_decimal (pos i.0))) ∷ (codes "Value", i.1) ∷ []))

abbrev pub map_part : Option (ℕ × Data) → List (List ℕ × Data)
map_part None = []
map_part (Some i) = (codes "Map", dict (pairs ((codes "Item", item_of i) ∷ []))) ∷ []

-- ---- what a Task has besides

-- where a service would send its answer: the execution, the state, and how often the state was
-- invoked before
abbrev pub token_of : Facts → Seen → List ℕ
token_of f v =
    codes "token:"
    ++ (f.name ++ (codes ":" ++ (name_in v.current ++ (codes ":" ++ decimal v.count))))

abbrev pub task_of : Facts → Seen → Data
task_of f v = dict (pairs ((codes "Token", text (token_of f v)) ∷ []))

abbrev pub task_part : Facts → Seen → List (List ℕ × Data)
task_part f v = if v.invokes then (codes "Task", task_of f v) ∷ [] else []

-- ---- the object

abbrev pub members_with : Facts → List (List ℕ × Data) → List (List ℕ × Data)
members_with f rest =
    (codes "Execution", execution_of f) ∷ (codes "StateMachine", state_machine_of f) ∷ rest

unfoldable pub context_of : Facts → Seen → Data
context_of f v =
    dict (pairs (members_with f
    ((codes "State", state_of v.moment v.current) ∷ (map_part v.iteration ++ task_part f v))))

-- ---- and as it is kept

-- the facts of an execution, and the object that was made last
pub record Scene : Type 0 where
  pub facts : Facts
  pub shown : Json

-- its fixed members stand first
pub record IsAbout (f : Facts) (v : Json) : Type 0 where
  pub rest : List (List ℕ × Data)
  pub value : v ≡ Dict (members_with f rest)
