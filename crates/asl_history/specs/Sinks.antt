-- Sinks that bytes are written to.
use Rattle.std.specs.Prelude.{ℕ, ◌+◌, ◌%◌, ◌^◌}

-- one failure more, modulo 2^64
abbrev pub counted : ℕ → ℕ
counted n = (n + 1) % 2 ^ 64
