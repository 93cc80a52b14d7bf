-- What is shared of a value: the value itself, or an item of a list.
use Rattle.std.specs.Prelude.{ℕ, ◌<◌, ⊤, List, [], length, Option, Some, None, slice_get}
use Rattle.asl_json_data.specs.Data.{Data}
use Rattle.asl_json.specs.View.{json_of}
use Rattle.asl_json.specs.declared.value.Json.{Json}
use Rattle.asl_json.specs.declared.value.Json.TheVariants.{Null, List as JsonList}

-- the items of a list; none of any other value
abbrev pub items_in : Json → List Data
items_in (JsonList ds) = ds
items_in _ = []

-- the items of a list that may be there
abbrev pub items_within : Option Json → List Data
items_within None = []
items_within (Some v) = items_in v

abbrev pub value_or_null : Option Data → Json
value_or_null None = Null
value_or_null (Some d) = json_of d

-- a value; or its item of this number
abbrev pub part_in : Json → Option ℕ → Json
part_in v None = v
part_in v (Some i) = value_or_null (slice_get (items_in v) i)

abbrev pub IsPart : Json → Option ℕ → Type 0
IsPart v None = ⊤
IsPart v (Some i) = i < length (items_in v)
