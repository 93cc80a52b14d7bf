-- What marking some nodes does to the marks and to the nodes that are open.
use Rattle.std.specs.Prelude.{◌≡◌, ◌⊎◌, ◌<◌, ◌≤◌, ◌+◌, ◌*◌, ℕ, suc, List, [], ◌∷◌, Bool, true, false, length}
use Rattle.asl_lint_warnings.specs.Ways.{IsIn}
use Rattle.asl_lint_warnings.specs.private.Marks.{is_marked}

abbrev pub unmarked : List Bool → ℕ
unmarked [] = 0
unmarked (true ∷ bs) = unmarked bs
unmarked (false ∷ bs) = suc (unmarked bs)

-- what is left to do
abbrev pub weight : List Bool → List ℕ → ℕ
weight marks opens = 2 * unmarked marks + length opens

pub record Grown (a : List Bool) (p : List ℕ) (ns : List ℕ) (b : List Bool) (q : List ℕ) : Type 0 where
  pub size : length b ≡ length a
  pub kept : (i : ℕ) → is_marked a i ≡ true → is_marked b i ≡ true
  pub fresh : (i : ℕ) → is_marked b i ≡ true → (is_marked a i ≡ true) ⊎ (IsIn ns i × IsIn q i)
  pub opened : (i : ℕ) → IsIn q i → IsIn p i ⊎ (is_marked b i ≡ true)
  pub stays : (i : ℕ) → IsIn p i → IsIn q i
  pub each : (i : ℕ) → IsIn ns i → i < length a → is_marked b i ≡ true
  pub falls : weight b q ≤ weight a p
