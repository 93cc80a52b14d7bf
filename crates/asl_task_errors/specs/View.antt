-- What a clause sees of what the code has.
use Rattle.std.specs.Prelude.{ℕ, List, map}
use denote.Ref.{Bor}
use Rattle.asl_json_data.specs.Data.{Data, Chain, chain}
use Rattle.asl_json.specs.View.{data_of, items_of}
use Rattle.asl_json.specs.declared.value.Json.{Json}
use Rattle.asl_task_errors.specs.declared.walking.TaskErrors.{TaskErrors}
use Rattle.asl_task_errors.specs.Tasks.{Told}

-- states, as they are lent
abbrev pub levels_of : List (Bor Json) → List Data
levels_of states = map (λ (s : Bor Json). data_of s.now) states

-- lists of retriers and of catchers
abbrev pub lists_of : List (Bor (List Json)) → List Chain
lists_of lists = map (λ (l : Bor (List Json)). chain (items_of l.now)) lists

-- names
abbrev pub names_of : List (Bor (List ℕ)) → List (List ℕ)
names_of names = map (λ (n : Bor (List ℕ)). n.now) names

-- a Task with its errors
abbrev pub told : TaskErrors → Told
told t = (t.state, t.errors.items)

abbrev pub all_told : List TaskErrors → List Told
all_told ts = map told ts
