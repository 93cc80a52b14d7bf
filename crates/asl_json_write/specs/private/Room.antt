-- How much of some room a text leaves.
use Rattle.std.specs.Prelude.{◌≡◌, ◌<◌, ◌+◌, ℕ, List, length, Option, MatchOption}

-- nothing where the text is longer, else what is left behind it
abbrev pub Leaves : List ℕ → ℕ → Option ℕ → Type 0
Leaves t room left = MatchOption left (room < length t) (λ n. n + length t ≡ room)
