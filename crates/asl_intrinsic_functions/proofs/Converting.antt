-- A list and an object are what their parts make.
use Rattle.std.proofs.Common.{◌≡◌, ℕ, List, [], ◌∷◌, refl, ap}
use Rattle.asl_json_data.specs.Data.{Data, chain, pairs}
use Rattle.asl_json.specs.View.{unchained, unpaired}

pub list_back : (ds : List Data) → unchained (chain ds) ≡ ds
list_back [] = refl
list_back (d ∷ ds) = ap (λ (x : List Data). d ∷ x) (list_back ds)

pub object_back : (ms : List (List ℕ × Data)) → unpaired (pairs ms) ≡ ms
object_back [] = refl
object_back (m ∷ ms) = ap (λ (x : List (List ℕ × Data)). m ∷ x) (object_back ms)
