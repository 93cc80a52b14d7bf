-- Names that are known.
use Rattle.std.specs.Prelude.{◌≡◌, ℕ, List, String, is_some}
use Rattle.std.specs.HashSet.{HashSet, contains_text}
use Rattle.asl_mock.specs.Answers.{Response}
use Rattle.asl_mock.specs.Tables.{Named, value_for}

-- the names of these responses
abbrev pub HasNames : {Y S : Type 0} → HashSet (String Y) S → List (Named Response) → Type 0
HasNames names rs = (k : List ℕ) → contains_text names k ≡ is_some (value_for k rs)
