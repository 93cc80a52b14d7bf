-- Two rules of an And that never hold both. (Amazon States Language, "Choice State".)
use Rattle.std.specs.Prelude.{ℕ, ◌+◌, List, [], ◌∷◌, Bool, false, ◌&&◌, ◌||◌, Option, Some, None, codes, if◌then◌else◌}
use Rattle.asl_json_data.specs.Data.{Data}
use Rattle.asl_json_data.specs.Distinct.{Members}
use Rattle.asl_json.specs.Same.{bytes_eq}
use Rattle.asl_lint_choices.specs.Conditions.{condition, all_conditions, is_same}
use Rattle.asl_lint_choices.specs.Comparisons.{exclude_as_comparisons}
use Rattle.asl_lint_choices.specs.declared.contradictions.Contradiction.{Contradiction}

-- these say that a rule doesn't hold that asks what the other one asks
abbrev pub is_denial : Members → Members → Bool
is_denial (m ∷ []) other = bytes_eq m.0 (codes "Not") && is_same (condition m.1) other
is_denial ms other = false

-- rules with these conditions never hold both
abbrev pub exclude : Members → Members → Bool
exclude a b = exclude_as_comparisons a b || (is_denial a b || is_denial b a)

-- the number of the first of these conditions, counted from n, that never holds beside this one
abbrev pub first_against : Members → ℕ → List Members → Option ℕ
first_against c n [] = None
first_against c n (d ∷ ds) = if exclude c d then Some n else first_against c (n + 1) ds

-- with this number the first of two, or later ones
abbrev pub against : ℕ → Option ℕ → Option Contradiction → Option Contradiction
against n (Some m) later = Some (record { first = n; second = m })
against n None later = later

-- of rules with these conditions, counted from n
abbrev pub contradiction_from : ℕ → List Members → Option Contradiction
contradiction_from n [] = None
contradiction_from n (c ∷ cs) =
    against n (first_against c (n + 1) cs) (contradiction_from (n + 1) cs)

-- of the rules of an And
unfoldable pub first_contradiction : List Data → Option Contradiction
first_contradiction rules = contradiction_from 0 (all_conditions rules)
