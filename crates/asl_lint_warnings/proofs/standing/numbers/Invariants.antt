use Rattle.std.proofs.Common.{◌≡◌, ◌++◌, drop}
use Rattle.std.specs.Prelude.{map}
use Rattle.asl_lint_warnings.specs.Graphs.{numbers_of}
use Rattle.asl_lint_warnings.specs.private.Places.{place_by}
use Rattle.asl_lint_warnings.proofs.standing.numbers.Given as goal

abbrev pub invariant-loop-name : goal.invariant-loop-name
invariant-loop-name l = l.numbers.items ++ numbers_of (place_by l.places) (map (λ x. x.now) (drop l.name-index l.names)) ≡ numbers_of (place_by l.places) (map (λ x. x.now) l.names)
