-- What holds of each element of a list.
use Rattle.std.proofs.Common.{zero, suc, [], ◌∷◌, arith}
use Rattle.std.specs.List.{All}

pub all_none : {A : Type 0} (P : A → Type 0) → All P []
all_none P k d lt = absurd (omega (arith, lt))

pub all_one : {A : Type 0} (P : A → Type 0) (a : A) → P a → All P (a ∷ [])
all_one P a p zero d lt = p
all_one P a p (suc k) d lt = absurd (omega (arith, lt))
