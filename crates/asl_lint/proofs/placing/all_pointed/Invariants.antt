use Rattle.std.proofs.Common.{◌≡◌, take}
use Rattle.std.specs.Prelude.{map}
use Rattle.asl_lint.specs.Findings.{pointed}
use Rattle.asl_lint.specs.private.Founds.{noted}
use Rattle.asl_lint.proofs.placing.all_pointed.Given as goal

abbrev pub invariant-loop-found : goal.invariant-loop-found
invariant-loop-found l = map (λ p. p.now) l.places.items ≡ map (λ f. pointed (noted f)) (take l.found-index l.found)
