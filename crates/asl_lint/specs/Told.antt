-- What a finding says.
use Rattle.std.specs.Prelude.{ℕ, Bool, true, false, List, [], ◌∷◌}
use Rattle.asl_lint.specs.declared.rule.Rule.{Rule}

abbrev pub has_some : {A : Type 0} → List A → Bool
has_some [] = false
has_some (x ∷ xs) = true

-- whether these words were made for a finding of this rule at this place: of the words it says that
-- there are some
unfoldable pub is_told : Rule → List ℕ → List ℕ → Bool
is_told r place words = has_some words
