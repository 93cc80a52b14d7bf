-- How many points are covered.
use Rattle.std.proofs.Common.{ℕ, ◌≡◌, ◌≤◌, ◌*◌, ◌/◌, Bool, true, false, List, [], ◌∷◌, length, refl, arith}
use Rattle.std.specs.Prelude.{filter}
use Rattle.std.proofs.Math.Nat.{div-le_of_le-mul}
use Rattle.std.proofs.lemmas.List.Sums.{count_by-le-length, length-filter}
use Rattle.asl_suite_coverage.specs.declared.point.Point.{Point}
use Rattle.asl_suite_coverage.specs.declared.reporting.File.{File}
use Rattle.asl_suite_coverage.specs.Points.{is_covered, covered, is_in, is_covered_in, points_in, covered_in}

pub covered_few : (ps : List Point) → covered ps ≤ length ps
covered_few ps = count_by-le-length is_covered ps

pub percent_few : (n all : ℕ) → n ≤ all → n * 100 / all ≤ 100
percent_few n all h = div-le_of_le-mul all (omega (arith, h))

filtered : (f : File) (ps : List Point) → length (filter (is_covered_in f) ps) ≤ length (filter (is_in f) ps)
filtered f [] = omega arith
filtered f (p ∷ ps) = by (is_in f p) (is_covered p) refl refl (filtered f ps)
  where
    by : (a b : Bool) → is_in f p ≡ a → is_covered p ≡ b → length (filter (is_covered_in f) ps) ≤ length (filter (is_in f) ps) → length (filter (is_covered_in f) (p ∷ ps)) ≤ length (filter (is_in f) (p ∷ ps))
    by true true a b h = rw (a, b) (omega (arith, h))
    by true false a b h = rw (a, b) (omega (arith, h))
    by false c a b h = rw a h

-- no more than those of the file
pub covered_in_few : (f : File) (ps : List Point) → covered_in f ps ≤ points_in f ps
covered_in_few f ps =
    let covered_are : length (filter (is_covered_in f) ps) ≡ covered_in f ps = length-filter (is_covered_in f) ps in
    let all_are : length (filter (is_in f) ps) ≡ points_in f ps = length-filter (is_in f) ps in
    let few = filtered f ps in
    omega (arith, covered_are, all_are, few)
