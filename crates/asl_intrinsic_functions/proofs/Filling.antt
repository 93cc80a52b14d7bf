-- A template's holes, from the left.
use Rattle.std.proofs.Common.{◌≡◌, ◌<◌, List, ℕ, zero, suc, [], ◌∷◌, ◌++◌, length, map, drop, None, refl, arith}
use Rattle.std.specs.Prelude.{option_map}
use Rattle.asl_intrinsic_functions.specs.Seen.{all_seen}
use Rattle.asl_intrinsic_functions.specs.Format.{filled, shown}
use Rattle.asl_intrinsic_functions.specs.declared.value.Value.{Value}

-- texts are left when there is no hole any more
pub left_over : (out : List ℕ) (vs : List Value) (n : ℕ) → n < length vs → option_map (λ r. out ++ r) (filled [] (map shown (all_seen (drop n vs)))) ≡ None
left_over out [] n lt = absurd (omega arith)
left_over out (v ∷ vs) zero lt = refl
left_over out (v ∷ vs) (suc n) lt = left_over out vs n (omega arith)
