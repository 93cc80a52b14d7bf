-- Places while they are found.
use Rattle.std.specs.Prelude.{ℕ, ◌+◌, List, [], ◌∷◌, Option, Some, None, if◌then◌else◌}
use Rattle.asl_json_data.specs.Distinct.{Members}
use Rattle.asl_json.specs.Same.{bytes_eq}

-- the number of the member of this key, counted from i
abbrev pub number_at : List ℕ → ℕ → Members → Option ℕ
number_at k i [] = None
number_at k i (m ∷ ms) = if bytes_eq k m.0 then Some i else number_at k (i + 1) ms
