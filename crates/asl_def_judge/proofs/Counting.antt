-- How long lists are.
use Rattle.std.proofs.Common.{◌≡◌, suc, List, [], ◌∷◌, false, not, length, refl, ap, arith}
use Rattle.std.specs.Prelude.{nat_eq}
use Rattle.std.proofs.lemmas.Bool.Decides.{nat_tests}
use Rattle.asl_json_data.specs.Data.{chain}
use Rattle.asl_json.specs.View.{items_of}
use Rattle.asl_json.specs.declared.value.Json.{Json}
use Rattle.asl_def_schema.specs.Claims.{is_nonempty, item_count}

pub items_counted : (vs : List Json) → length vs ≡ item_count (chain (items_of vs))
items_counted [] = refl
items_counted (v ∷ vs) = ap suc (items_counted vs)

pub items_nonempty : (vs : List Json) → not (nat_eq (length vs) 0) ≡ is_nonempty (chain (items_of vs))
items_nonempty [] = refl
items_nonempty (v ∷ vs) = ap not (let e : nat_eq (suc (length vs)) 0 ≡ false = grind (arith, nat_tests) in e)
