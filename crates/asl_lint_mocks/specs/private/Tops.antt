-- The highest number of some answers, and how far they reach without a gap.
use Rattle.std.specs.Prelude.{◌≤◌, ℕ, ◌+◌, [], ◌∷◌, ◌&&◌, nat_le, nat_lt, Option, Some, None, if◌then◌else◌}
use Rattle.asl_json_data.specs.Distinct.{Members}
use Rattle.asl_mock.specs.Key.{span_in}
use Rattle.asl_mock.specs.declared.key.Span.{Span}

abbrev pub IsBelow : ℕ → Option Span → Type 0
IsBelow top None = Unit {0}
IsBelow top (Some s) = s.high ≤ top

-- none of these keys is for a number above it
abbrev pub IsTop : ℕ → Members → Type 0
IsTop top [] = Unit {0}
IsTop top (m ∷ ms) = IsBelow top (span_in m.0) × IsTop top ms

abbrev pub raised : ℕ → Option Span → ℕ
raised top None = top
raised top (Some s) = if nat_lt top s.high then s.high else top

abbrev pub reached : ℕ → Option Span → ℕ
reached reach None = reach
reached reach (Some s) = if nat_le s.low reach && nat_le reach s.high then s.high + 1 else reach
