-- Where something stands in a mock file: the keys on the way to it, from the outermost in.
use Rattle.std.specs.Prelude.{ℕ, List, [], ◌∷◌, ◌++◌, Option, Some, None, map}
use Rattle.std.specs.List.{flat_map}
use Rattle.asl_json_data.specs.Data.{Data}
use Rattle.asl_json_data.specs.Distinct.{Members}
use Rattle.asl_json_write.specs.Pointers.{name_part}

abbrev pub Place : Type 0
Place = List (List ℕ)

-- as a JSON Pointer (RFC 6901, sections 3 and 4)
abbrev pub pointer_text : Place → List ℕ
pointer_text ks = flat_map name_part ks

-- as they are seen from the object that has this key
abbrev pub under : List ℕ → List Place → List Place
under k ps = map (λ (p : Place). k ∷ p) ps

-- those of each member in turn
abbrev pub in_each : (List ℕ × Data → List Place) → Members → List Place
in_each f [] = []
in_each f (m ∷ ms) = under m.0 (f m) ++ in_each f ms

abbrev pub first_of : {A : Type 0} → List A → Option A
first_of [] = None
first_of (x ∷ xs) = Some x
