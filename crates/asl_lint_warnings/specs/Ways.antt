-- Which nodes are reached along edges. Nodes go by numbers, and edges lead from each node to those of its
-- list.
use Rattle.std.specs.Prelude.{◌≡◌, ◌⊎◌, ℕ, zero, suc, List, [], ◌∷◌, get_or}

abbrev pub IsIn : List ℕ → ℕ → Type 0
IsIn [] i = ⊥
IsIn (x ∷ xs) i = (i ≡ x) ⊎ IsIn xs i

abbrev pub Edge : List (List ℕ) → ℕ → ℕ → Type 0
Edge es i j = IsIn (get_or es i []) j

-- so many edges lead to a node from one of the starts
abbrev pub Arrives : List (List ℕ) → List ℕ → ℕ → ℕ → Type 0
Arrives es starts zero i = IsIn starts i
Arrives es starts (suc n) j = (i : ℕ) × Arrives es starts n i × Edge es i j

-- some edges, or none
abbrev pub Reaches : List (List ℕ) → List ℕ → ℕ → Type 0
Reaches es starts i = (n : ℕ) × Arrives es starts n i
