-- The keys of an object's members as a set.
use Rattle.std.specs.Prelude.{◌≡◌, ℕ, List, Option, Some, None, map, string_bytes}
use Rattle.std.specs.declared.string.String.{String}
use Rattle.std.specs.HashSet.{HashSet, contains_text}
use Rattle.std.specs.List.{list_any}
use Rattle.asl_json_data.specs.Distinct.{Members, has_key}
use Rattle.asl_json.specs.Same.{bytes_eq}

-- the set has the keys of these members and no others
abbrev pub HasKeys : {Y S : Type 0} → HashSet (String Y) S → Members → Type 0
HasKeys s ms = (k : List ℕ) → contains_text s k ≡ has_key k ms

abbrev pub texts_in : {Y S : Type 0} → HashSet (String Y) S → List (List ℕ)
texts_in s = map string_bytes s.keys

-- these are the keys of these members and no others
abbrev pub AreKeys : List (List ℕ) → Members → Type 0
AreKeys ks ms = (k : List ℕ) → list_any (bytes_eq k) ks ≡ has_key k ms

-- where there are keys, they are these members'
abbrev pub Knows : Option (List (List ℕ)) → Members → Type 0
Knows None ms = Unit {0}
Knows (Some ks) ms = AreKeys ks ms
