-- Lists with more than one item.
use Rattle.std.proofs.Common.{◌≡◌, ◌<◌, ◌≤◌, List, [], ◌∷◌, length, true, false, refl, arith}
use Rattle.asl_json_data.specs.Data.{chain}
use Rattle.asl_json.specs.View.{items_of}
use Rattle.asl_json.specs.declared.value.Json.{Json}
use Rattle.asl_graph.specs.Conditions.{has_many}

pub few : (vs : List Json) → length vs < 2 → has_many (chain (items_of vs)) ≡ false
few [] lt = refl
few (v ∷ []) lt = refl
few (v ∷ w ∷ vs) lt = absurd (omega (arith, lt))

pub many : (vs : List Json) → 2 ≤ length vs → has_many (chain (items_of vs)) ≡ true
many [] le = absurd (omega (arith, le))
many (v ∷ []) le = absurd (omega (arith, le))
many (v ∷ w ∷ vs) le = refl
