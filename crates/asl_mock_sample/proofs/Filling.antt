-- One filler more.
use Rattle.std.proofs.Common.{◌≡◌, ◌+◌, ℕ, suc, [], ◌∷◌, ◌++◌, ap, arith}
use Rattle.asl_mock_sample.specs.Merging.{anything}
use Rattle.asl_mock_sample.specs.Paths.{fillers}

pub fillers_more : (n : ℕ) → fillers (n + 1) ≡ fillers n ++ anything ∷ []
fillers_more n = let e : n + 1 ≡ suc n = omega arith in ap fillers e
