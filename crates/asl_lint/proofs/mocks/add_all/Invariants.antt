use Rattle.std.proofs.Common.{◌≡◌, ◌++◌}
use Rattle.std.specs.Prelude.{map}
use Rattle.std.specs.Vec.Iter.{into_iter_items}
use Rattle.asl_lint_mocks.specs.Places.{numbers_of}
use Rattle.asl_lint.specs.private.Founds.{noted}
use Rattle.asl_lint.proofs.Mocking.{ruled_by}
use Rattle.asl_lint.proofs.mocks.add_all.Given as goal

abbrev pub invariant-loop-place : goal.invariant-loop-place
invariant-loop-place l = map noted l.found.items ++ ruled_by l.rule (numbers_of (into_iter_items l.place-iterator)) ≡ map noted l.fn.found.items ++ ruled_by l.rule (numbers_of l.fn.places.items)
