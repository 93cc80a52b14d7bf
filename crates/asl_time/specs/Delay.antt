-- Delays before retries: ASL, "Retrying after error".
use Rattle.std.specs.Prelude.{ℕ, zero, suc, ◌*◌, ◌/◌, min, Option, None, Some}

-- the cap that holds: 366 days where none is given
abbrev pub cap_seconds : Option ℕ → ℕ
cap_seconds None = 31_622_400
cap_seconds (Some seconds) = seconds

-- the delay after so many steps: each is the one before times the rate, in units of 10^-9, rounded
-- down and capped
unfoldable pub delay_after : ℕ → ℕ → ℕ → ℕ → ℕ
delay_after first rate cap zero = min first cap
delay_after first rate cap (suc steps) =
    min (delay_after first rate cap steps * rate / 1_000_000_000) cap
