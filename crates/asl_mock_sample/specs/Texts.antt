-- Texts, cut at a byte.
use Rattle.std.specs.Prelude.{ℕ, nat_lt, ◌==◌, List, length, Option, Some, None, if◌then◌else◌}
use Rattle.std.specs.List.{position_or_len, before_first, after_first}

-- what stands before the first of these bytes, and behind it
abbrev pub cut : ℕ → List ℕ → Option (List ℕ × List ℕ)
cut c t =
    if nat_lt (position_or_len (λ b. b == c) t) (length t)
    then Some (before_first (λ b. b == c) t, after_first (λ b. b == c) t)
    else None
