-- What a Map state runs for each item, and on what input, in either spelling. (Amazon States
-- Language, "Map State".)
use Rattle.std.specs.Prelude.{ℕ, List, [], ◌∷◌, Option, Some, None, codes}
use Rattle.std.specs.Option.{option_or}
use Rattle.asl_json_data.specs.Data.{Data}
use Rattle.asl_json.specs.Meaning.{value_in}

-- its machine: the value of `Iterator` or of `ItemProcessor`, of which exactly one is there
abbrev pub processor_in : Data → Option Data
processor_in d = option_or (value_in (codes "Iterator") d) (value_in (codes "ItemProcessor") d)

-- the template for the inputs of its iterations: the value of `Parameters` or of `ItemSelector`, of
-- which at most one is there
abbrev pub selector_in : Data → Option Data
selector_in d = option_or (value_in (codes "Parameters") d) (value_in (codes "ItemSelector") d)

-- the members of a machine that say what it does
abbrev pub machine_names : List (List ℕ)
machine_names = codes "Comment" ∷ codes "StartAt" ∷ codes "States" ∷ []

-- a member of a value that may be there
abbrev pub member_in : List ℕ → Option Data → Option Data
member_in k None = None
member_in k (Some d) = value_in k d
