use Rattle.std.proofs.Common.{drop}
use Rattle.asl_lint_files.specs.Linted.{IsTaken}
use Rattle.asl_lint_files.proofs.Paired.{GoesOn}
use Rattle.asl_lint_files.proofs.linting.taken_all.Given as goal

abbrev pub invariant-loop-file : goal.invariant-loop-file
invariant-loop-file l = GoesOn IsTaken l.files (drop l.file-index l.files) l.all.items
