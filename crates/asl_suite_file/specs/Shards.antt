-- Parts of a suite.
use Rattle.std.specs.Prelude.{ℕ, zero, suc, ◌-◌, List, [], ◌∷◌}

-- each member of a list that stands so far behind the one before it, once so many are left out
abbrev pub every_after : {A : Type 0} → ℕ → ℕ → List A → List A
every_after skipped apart [] = []
every_after zero apart (x ∷ xs) = x ∷ every_after (apart - 1) apart xs
every_after (suc skipped) apart (x ∷ xs) = every_after skipped apart xs

-- the members of these numbers, from 1: the first, and each that stands so far behind one of them
abbrev pub every : {A : Type 0} → ℕ → ℕ → List A → List A
every first apart xs = every_after (first - 1) apart xs
