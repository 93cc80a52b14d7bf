-- What a list or an object holds is no deeper than what it holds together.
use Rattle.std.proofs.Common.{◌≡◌, ◌<◌, ◌≤◌, ℕ, zero, suc, List, [], ◌∷◌, length, get_or, ap, arith}
use Rattle.std.specs.Prelude.{map}
use Rattle.asl_json_data.specs.Data.{Data, depth, items_depth, members_depth, chain, pairs}

pub item_within : {A : Type 0} (f : A → Data) (xs : List A) (i : ℕ) (x : A) → i < length xs → x ≡ get_or xs i x → depth (f x) ≤ items_depth (chain (map f xs))
item_within f [] i x lt at = omega (arith, lt)
item_within f (y ∷ ys) zero x lt at = let same : depth (f x) ≡ depth (f y) = ap (λ z. depth (f z)) at in omega (arith, same)
item_within f (y ∷ ys) (suc i) x lt at = omega (arith, item_within f ys i x (omega (arith, lt)) at)

pub member_within : {A : Type 0} (f : A → List ℕ × Data) (xs : List A) (i : ℕ) (x : A) → i < length xs → x ≡ get_or xs i x → depth (f x).1 ≤ members_depth (pairs (map f xs))
member_within f [] i x lt at = omega (arith, lt)
member_within f (y ∷ ys) zero x lt at = let same : depth (f x).1 ≡ depth (f y).1 = ap (λ z. depth (f z).1) at in omega (arith, same)
member_within f (y ∷ ys) (suc i) x lt at = omega (arith, member_within f ys i x (omega (arith, lt)) at)
