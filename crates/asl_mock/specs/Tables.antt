-- Values under names.
use Rattle.std.specs.Prelude.{ℕ, List, [], ◌∷◌, Option, Some, None, if◌then◌else◌, map, String, string_bytes}
use Rattle.asl_json.specs.Same.{bytes_eq}

-- a value under its name
abbrev pub Named : Type 0 → Type 0
Named X = List ℕ × X

-- what a table holds, in its order
abbrev pub named : {X Z : Type 0} → List (String Z × X) → List (Named X)
named {X = X} {Z = Z} es = map (λ (e : String Z × X). (string_bytes e.0, e.1)) es

-- the value of this name
abbrev pub value_for : {X : Type 0} → List ℕ → List (Named X) → Option X
value_for k [] = None
value_for k (n ∷ ns) = if bytes_eq k n.0 then Some n.1 else value_for k ns
