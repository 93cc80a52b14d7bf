-- What a buffer holds after bytes were appended to it.
use Rattle.std.specs.Prelude.{◌≡◌, ℕ, List, length, take}

-- what it held is still in front
pub record Keeps (old new : List ℕ) : Type 0 where
  pub front : take (length old) new ≡ old
