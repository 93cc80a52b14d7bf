use Rattle.std.proofs.Common.{◌≡◌, take}
use Rattle.std.specs.Prelude.{map}
use Rattle.asl_lint.specs.Findings.{of_fault}
use Rattle.asl_lint.specs.private.Founds.{noted}
use Rattle.asl_lint.proofs.definition.found_faults.Given as goal

abbrev pub invariant-loop-i : goal.invariant-loop-i
invariant-loop-i l = map noted l.found.items ≡ map of_fault (take l.i l.faults)
