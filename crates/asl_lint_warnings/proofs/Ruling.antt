-- The items of a list of rules.
use Rattle.std.proofs.Common.{◌≡◌, List, refl, sym}
use Rattle.asl_json_data.specs.Data.{Data, list, chain}
use Rattle.asl_json.specs.View.{unchained}
use Rattle.asl_lint_choices.proofs.Parts.{listed}

pub listed_again : (xs : List Data) → unchained (chain xs) ≡ xs
listed_again xs = sym (listed (list (chain xs)) xs refl)
