-- Items by their number.
use Rattle.std.proofs.Common.{◌≡◌, ℕ, zero, suc, List, [], ◌∷◌, refl}
use Rattle.std.specs.Prelude.{slice_get}
use Rattle.asl_json_data.specs.Data.{Data, chain}
use Rattle.asl_path.specs.Walk.{item_at}

pub item_got : (ds : List Data) (i : ℕ) → slice_get ds i ≡ item_at i (chain ds)
item_got [] zero = refl
item_got [] (suc i) = refl
item_got (d ∷ ds) zero = refl
item_got (d ∷ ds) (suc i) = item_got ds i
