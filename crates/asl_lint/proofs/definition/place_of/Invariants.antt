use Rattle.std.proofs.Common.{◌≡◌, take}
use Rattle.asl_lint.specs.Findings.{numbers}
use Rattle.asl_lint.proofs.definition.place_of.Given as goal

abbrev pub invariant-loop-step : goal.invariant-loop-step
invariant-loop-step l = l.place.items ≡ numbers (take l.step-index l.steps)
