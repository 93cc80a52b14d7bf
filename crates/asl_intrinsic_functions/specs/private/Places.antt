-- The numbers of an object's members by their keys, as code keeps them.
use Rattle.std.specs.Prelude.{◌≡◌, ℕ, List}
use Rattle.std.specs.Borrow.{Bor}
use Rattle.std.specs.HashMap.{HashMap, get_by}
use Rattle.std.specs.Str.{bytes_eq}
use Rattle.asl_json_data.specs.Data.{Data}
use Rattle.asl_json.specs.Access.{key_index}

abbrev pub HasPlaces : {S : Type 0} → HashMap (Bor (List ℕ)) ℕ S → List (List ℕ × Data) → Type 0
HasPlaces places ms = (k : List ℕ) → get_by (λ x. bytes_eq k x.now) places ≡ key_index k ms
