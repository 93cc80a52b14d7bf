-- In which order branches stand, and where a place leads.
use Rattle.std.specs.Prelude.{ℕ, Bool, true, false, ⊤, ◌≡◌, ◌==◌, ◌&&◌, ◌||◌, List, [], ◌∷◌, Option, Some, None, nat_lt}
use Rattle.std.specs.List.{AllByRecursion}
use Rattle.asl_step.specs.declared.record.Record.{Record}
use Rattle.asl_run_branches.specs.Branches.{record_at}
use Rattle.asl_run_branches.specs.Trees.{Family, branches_of}

-- a place comes before those under it, and before those that have a higher number where the two part
-- first
abbrev pub is_before : List ℕ → List ℕ → Bool
is_before p [] = false
is_before [] (y ∷ ys) = true
is_before (x ∷ xs) (y ∷ ys) = nat_lt x y || ((x == y) && is_before xs ys)

abbrev pub IsBeforeAll : List ℕ → List (List ℕ) → Type 0
IsBeforeAll p qs = AllByRecursion (λ q. is_before p q ≡ true) qs

-- each place comes before all that stand behind it; so none stands twice
abbrev pub AreInOrder : List (List ℕ) → Type 0
AreInOrder [] = ⊤
AreInOrder (p ∷ ps) = IsBeforeAll p ps × AreInOrder ps

-- what the branch at a place is doing, by the frame that the place leads to
abbrev pub record_in : List ℕ → Option Family → Option Record
record_in p None = None
record_in p (Some f) = record_at p (branches_of f)
