-- What is appended to a text.
use Rattle.std.specs.Prelude.{ℕ, List, ◌≡◌, ◌++◌}

-- the one text with this piece behind it is the other
pub record Appends (old piece new : List ℕ) : Type 0 where
  pub is : new ≡ old ++ piece
