-- Named values of which an object is made.
use Rattle.std.specs.Prelude.{ℕ, List, [], ◌∷◌, Bool, true, ◌&&◌, not, Option, map, option_map}
use Rattle.asl_json_data.specs.Data.{Data}
use Rattle.asl_json.specs.View.{data_of}
use Rattle.asl_def_schema.specs.Members.{is_among}
use Rattle.asl_def_fields.specs.declared.entry.Entry.{Entry}

abbrev pub entry_of : Entry → List ℕ × Option Data
entry_of e = (e.name.now, option_map data_of e.value)

abbrev pub entries_of : List Entry → List (List ℕ × Option Data)
entries_of es = map entry_of es

-- no name comes twice, nor is it one of these
abbrev pub are_apart : List (List ℕ) → List (List ℕ × Option Data) → Bool
are_apart seen [] = true
are_apart seen (e ∷ es) = not (is_among e.0 seen) && are_apart (e.0 ∷ seen) es
