-- Lists of names of errors are equal where their texts are; a path or a call is written as another where
-- it shows the same.
use Rattle.std.specs.Prelude.{◌≡◌, ◌↔◌, ℕ, List, Bool, IsTrue}
use Rattle.std.specs.Cmp.Lexicographic.{pointwise}
use Rattle.asl_json.specs.Same.{bytes_eq, equal}
use Rattle.asl_def_fields.specs.declared.path.PathOrCall.{PathOrCall}
use Rattle.asl_def_fields.specs.Shown.{path_or_call_shown}

abbrev pub names_equal : List (List ℕ) → List (List ℕ) → Bool
names_equal = pointwise bytes_eq

abbrev pub written_alike : PathOrCall → PathOrCall → Bool
written_alike a b = equal (path_or_call_shown a) (path_or_call_shown b)

-- it is true exactly where the two are one
abbrev pub IsExact : {A : Type 0} → (A → A → Bool) → Type 0
IsExact {A} E = (a b : A) → IsTrue (E a b) ↔ (a ≡ b)
