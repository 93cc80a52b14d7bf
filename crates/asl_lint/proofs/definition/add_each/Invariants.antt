use Rattle.std.proofs.Common.{◌≡◌, ◌++◌, drop}
use Rattle.std.specs.Prelude.{map}
use Rattle.asl_lint.specs.Findings.{warnings_told}
use Rattle.asl_lint.specs.private.Founds.{noted}
use Rattle.asl_lint.proofs.definition.add_each.Given as goal

abbrev pub invariant-loop-warning : goal.invariant-loop-warning
invariant-loop-warning l = map noted l.found.items ++ warnings_told l.is_faulty (drop l.warning-index l.warnings) ≡ map noted l.fn.found.items ++ warnings_told l.is_faulty l.warnings
