use Rattle.std.proofs.Common.{◌≡◌, ◌++◌, ◌∷◌}
use Rattle.std.specs.Prelude.{map}
use Rattle.std.specs.Vec.Iter.{into_iter_items}
use Rattle.asl_lint_mocks.specs.Places.{numbers_of}
use Rattle.asl_lint_mocks.proofs.placing.add_under.Given as goal

abbrev pub invariant-loop-place : goal.invariant-loop-place
invariant-loop-place l = numbers_of l.all.items ++ map (λ p. l.at ∷ p) (numbers_of (into_iter_items l.place-iterator)) ≡ numbers_of l.fn.all.items ++ map (λ p. l.at ∷ p) (numbers_of l.fn.inner.items)
