-- Places of branches: the numbers of the forks on the way to a branch.
use Rattle.std.specs.Prelude.{ℕ, ◌==◌, ◌<◌, ◌≤◌, ◌^◌, ◌&&◌, not, Bool, true, false, List, [], ◌∷◌, All, ⊤, Option, Some, None}
use Rattle.std.specs.List.{flat_map}
use Rattle.std.specs.Fmt.{decimal}

-- the numbers of a place: the root has none
abbrev pub numbers_in : Option (List ℕ) → List ℕ
numbers_in None = []
numbers_in (Some ns) = ns

-- each number is below 10^9
abbrev pub IsPlace : List ℕ → Type 0
IsPlace p = All (λ n. n < 10 ^ 9) p

-- q is p, or is under it
abbrev pub is_prefix : List ℕ → List ℕ → Bool
is_prefix [] q = true
is_prefix (x ∷ xs) [] = false
is_prefix (x ∷ xs) (y ∷ ys) = (x == y) && is_prefix xs ys

-- the second is a sibling of the first, or of a place above the first
abbrev pub is_beside : List ℕ → List ℕ → Bool
is_beside p [] = false
is_beside [] (y ∷ ys) = false
is_beside (x ∷ xs) (y ∷ []) = not (x == y)
is_beside (x ∷ xs) (y ∷ z ∷ zs) = (x == y) && is_beside xs (z ∷ zs)

-- q is directly under p
abbrev pub is_child : List ℕ → List ℕ → Bool
is_child [] [] = false
is_child [] (y ∷ []) = true
is_child [] (y ∷ z ∷ zs) = false
is_child (x ∷ xs) [] = false
is_child (x ∷ xs) (y ∷ ys) = (x == y) && is_child xs ys

-- a slash, and the number in plain decimal
abbrev pub step_text : ℕ → List ℕ
step_text n = 47 ∷ decimal n

abbrev pub steps_text : List ℕ → List ℕ
steps_text p = flat_map step_text p

-- a slash for the root, else a slash before each number
abbrev pub place_text : List ℕ → List ℕ
place_text [] = 47 ∷ []
place_text (n ∷ ns) = steps_text (n ∷ ns)

-- no digit stands first
abbrev pub EndsNumber : List ℕ → Type 0
EndsNumber [] = ⊤
EndsNumber (c ∷ cs) = 48 ≤ c → c ≤ 57 → ⊥
