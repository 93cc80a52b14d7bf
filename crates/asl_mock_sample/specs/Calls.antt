-- The Tasks of a definition in canonical form, in document order, at any depth.
use Rattle.std.specs.Prelude.{ℕ, List, [], ◌∷◌, Option, Some, codes}
use Rattle.std.specs.List.{flat_map}
use Rattle.asl_json_data.specs.Data.{Data, text}
use Rattle.asl_json.specs.Meaning.{value_in}
use Rattle.asl_def_walk.specs.States.{all_states}
use Rattle.asl_mock_sample.specs.declared.call.Call.{Call}

-- a state that invokes a resource is a Task
abbrev pub call_by : List ℕ → Option Data → List Call
call_by name (Some (text r)) = record { name = name; resource = r } ∷ []
call_by name _ = []

-- of a state, by its name and its object
abbrev pub own_call : List ℕ × Data → List Call
own_call s = call_by s.0 (value_in (codes "Resource") s.1)

abbrev pub calls_in : Data → List Call
calls_in d = flat_map own_call (all_states d)
