-- What an input gives.
use Rattle.std.specs.Prelude.{ℕ, List, [], ◌∷◌, ◌++◌, Option, Some, None}

-- a line with the line feed behind it; nothing at the end
abbrev pub line_given : Option (List ℕ) → List ℕ
line_given None = []
line_given (Some line) = line ++ 10 ∷ []

-- bytes; none at the end
abbrev pub bytes_given : Option (List ℕ) → List ℕ
bytes_given None = []
bytes_given (Some b) = b
