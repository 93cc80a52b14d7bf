-- How JSON is laid out: in one line, or for a person.
use Rattle.std.specs.Prelude.{Bool, true, false, List, ℕ, [], ◌∷◌, ◌++◌, ◌≡◌, ◌⊎◌}
use Rattle.asl_json_data.specs.Data.{Data}
use Rattle.asl_json_data.specs.Compact.{compact}
use Rattle.asl_json_data.specs.Reads.{ReadsAs}
use Rattle.asl_json_pretty.specs.Pretty.{pretty}

abbrev pub laid_out : Bool → Data → List ℕ
laid_out false d = compact d
laid_out true d = pretty d

-- a text as it is, or laid out for a person, if it is a JSON text
abbrev pub IsLaidOut : Bool → List ℕ → List ℕ → Type 0
IsLaidOut false text file = file ≡ text
IsLaidOut true text file =
    ((d : Data) × ReadsAs text d × (file ≡ pretty d ++ 10 ∷ []))
    ⊎ (((d : Data) → ReadsAs text d → ⊥) × (file ≡ text))
