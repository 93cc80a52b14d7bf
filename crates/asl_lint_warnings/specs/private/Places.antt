-- The states of a machine by their names, and edges turned round, as code keeps them.
use Rattle.std.specs.Prelude.{◌≡◌, ◌<◌, ◌↔◌, ◌⊎◌, ℕ, List, Option, length}
use Rattle.std.specs.Borrow.{Bor}
use Rattle.std.specs.HashMap.{HashMap, get_by}
use Rattle.std.specs.Str.{bytes_eq}
use Rattle.asl_lint_warnings.specs.Ways.{IsIn, Edge}

abbrev pub place_by : {S : Type 0} → HashMap (Bor (List ℕ)) ℕ S → List ℕ → Option ℕ
place_by places k = get_by (λ x. bytes_eq k x.now) places

-- behind the edges that were there, each of these nodes has one to this one
abbrev pub HasTurned : List (List ℕ) → ℕ → List ℕ → List (List ℕ) → Type 0
HasTurned es i targets fs =
    (j k : ℕ) → j < length es
    → (Edge fs j k ↔ (Edge es j k ⊎ (IsIn targets j × (k ≡ i))))

abbrev pub AreTurned : List (List ℕ) → List (List ℕ) → Type 0
AreTurned es fs =
    (length fs ≡ length es) × ((j k : ℕ) → j < length es → (Edge fs j k ↔ Edge es k j))
