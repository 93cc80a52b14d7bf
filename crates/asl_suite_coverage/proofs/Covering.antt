-- Points that are covered.
use Rattle.std.proofs.Common.{◌≡◌, ◌<◌, ℕ, zero, suc, Bool, true, false, List, [], ◌∷◌, ◌++◌, refl, ap, length, map, set, get_or, take, drop, Some, arith}
use Rattle.std.specs.Prelude.{slice_get}
use Rattle.asl_suite_coverage.specs.declared.point.Point.{Point}
use Rattle.asl_suite_coverage.specs.declared.spot.Spot.{Spot}
use Rattle.asl_suite_coverage.specs.Points.{is_covered, told_of, is_covered_by, with_spots, IsMore}

-- those so far are covered, and one more
next : (ss : List Spot) (ps : List Point) (i : ℕ) (d : Point) → i < length ps
    → take (suc i) (set ps i (with_spots ss (get_or ps i d))) ++ map (with_spots ss) (drop (suc i) (set ps i (with_spots ss (get_or ps i d))))
    ≡ take i ps ++ map (with_spots ss) (drop i ps)
next ss [] i d h = absurd (omega arith)
next ss (p ∷ ps) zero d h = refl
next ss (p ∷ ps) (suc i) d h = ap (λ (qs : List Point). p ∷ qs) (next ss ps i d (omega arith))

all_same : (ss : List Spot) (ps : List Point) → map told_of (map (with_spots ss) ps) ≡ map told_of ps
all_same ss [] = refl
all_same ss (p ∷ ps) = ap (λ qs. told_of p ∷ qs) (all_same ss ps)

is_true : (b : Bool) → Some b ≡ Some true → b ≡ true
is_true true e = refl
is_true false e = (cc)

covered_still : (ss : List Spot) (p : Point) → Some (is_covered p) ≡ Some true → Some (is_covered_by ss p) ≡ Some true
covered_still ss p e = let c = is_true (is_covered p) e in rw c refl

all_kept : (ss : List Spot) (ps : List Point) (n : ℕ) → slice_get (map is_covered ps) n ≡ Some true → slice_get (map is_covered (map (with_spots ss) ps)) n ≡ Some true
all_kept ss [] n h = h
all_kept ss (p ∷ ps) zero h = covered_still ss p h
all_kept ss (p ∷ ps) (suc n) h = all_kept ss ps n h

-- points only become covered
pub all_more : (ss : List Spot) (ps : List Point) → IsMore ps (map (with_spots ss) ps)
all_more ss ps = record { same = all_same ss ps; kept = all_kept ss ps }
