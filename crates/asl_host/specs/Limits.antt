-- The limits of what is read.
use Rattle.std.specs.Prelude.{ℕ}

-- how many bytes a file may have
abbrev pub most_bytes : ℕ
most_bytes = 16777216
