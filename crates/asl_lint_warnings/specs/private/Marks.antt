-- Marks of nodes by their numbers.
use Rattle.std.specs.Prelude.{ℕ, List, Bool, false, get_or}

-- the mark of this number
abbrev pub is_marked : List Bool → ℕ → Bool
is_marked marks i = get_or marks i false
