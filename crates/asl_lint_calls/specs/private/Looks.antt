-- Counting the places of a template from left to right.
use Rattle.std.specs.Prelude.{ℕ, ◌==◌, Bool, true, false, List, [], ◌∷◌, ◌++◌, if◌then◌else◌}
use Rattle.asl_intrinsic_functions.specs.Letters.{letters, behind_backslash}
use Rattle.asl_intrinsic_functions.specs.Format.{tokens}
use Rattle.asl_lint_calls.specs.declared.holes.Look.{Look}
use Rattle.asl_lint_calls.specs.declared.holes.Look.TheVariants.{Nothing, Backslash, Brace}
use Rattle.asl_lint_calls.specs.Known.{count_holes}

abbrev pub look_by : ℕ → Look
look_by c = if c == 92 then Backslash else (if c == 123 then Brace else Nothing)

abbrev pub look_on : Look → ℕ → Look
look_on Backslash c = Nothing
look_on Nothing c = look_by c
look_on Brace c = look_by c

abbrev pub fills : Look → ℕ → Bool
fills Brace c = c == 125
fills l c = false

-- the places in these characters behind what was looked at
abbrev pub holes_from : Look → List ℕ → ℕ
holes_from Nothing cs = count_holes (tokens (letters true cs))
holes_from Backslash cs = count_holes (tokens (behind_backslash true cs))
holes_from Brace cs = count_holes (tokens (letters false (123 ∷ []) ++ letters true cs))
