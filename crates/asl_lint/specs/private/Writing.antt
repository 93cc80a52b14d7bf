-- JSON while it is written.
use Rattle.std.specs.Prelude.{ℕ, Bool, true, false, ◌||◌, List, [], ◌∷◌, ◌++◌}
use Rattle.asl_json_data.specs.Data.{Data}
use Rattle.asl_json_data.specs.Compact.{compact}
use Rattle.asl_json_data.specs.Parts.{comma}
use Rattle.asl_lint.specs.declared.report.FileReport.{FileReport}
use Rattle.asl_lint.specs.Sarif.{result_object, uri}
use Rattle.asl_lint.specs.Told.{has_some}

abbrev pub comma_if : Bool → List ℕ
comma_if false = []
comma_if true = comma ∷ []

-- what these give, with commas between, and one before where something stands before
abbrev pub more_items : {A : Type 0} → (A → Data) → Bool → List A → List ℕ
more_items f begun [] = []
more_items f begun (x ∷ xs) = comma_if begun ++ (compact (f x) ++ more_items f true xs)

-- the results of these files
abbrev pub more_results : Bool → List FileReport → List ℕ
more_results begun [] = []
more_results begun (r ∷ rs) =
    more_items (result_object (uri r.name.now)) begun r.findings.items
    ++ more_results (begun || has_some r.findings.items) rs
