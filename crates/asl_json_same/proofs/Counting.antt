-- An object's members, counted.
use Rattle.std.proofs.Common.{◌≡◌, ◌≢◌, ℕ, suc, Bool, true, false, ◌&&◌, List, [], ◌∷◌, length, refl, sym, ap}
use Rattle.asl_json_data.specs.Data.{Data, pairs, chain}
use Rattle.asl_json.specs.Meaning.{count, same, same_items}

pub count_pairs : (ms : List (List ℕ × Data)) → count (pairs ms) ≡ length ms
count_pairs [] = refl
count_pairs (m ∷ ms) = ap suc (count_pairs ms)

pub and_off : (a : Bool) → (a && false) ≡ false
and_off true = refl
and_off false = refl

pub unlike_items : (a b : List Data) → length a ≢ length b → false ≡ same_items (chain a) (chain b)
unlike_items [] [] ne = absurd (ne refl)
unlike_items [] (y ∷ ys) ne = refl
unlike_items (x ∷ xs) [] ne = refl
unlike_items (x ∷ xs) (y ∷ ys) ne = rw (← unlike_items xs ys (λ e. ne (ap suc e))) (sym (and_off (same x y)))
