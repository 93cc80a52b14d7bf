use Rattle.std.proofs.Common.{drop}
use Rattle.std.specs.Prelude.{option_map}
use Rattle.asl_lint_files.specs.Linted.{IsReported}
use Rattle.asl_lint_files.proofs.Paired.{GoesOn}
use Rattle.asl_lint_files.proofs.linting.reported_all.Given as goal

abbrev pub invariant-loop-file : goal.invariant-loop-file
invariant-loop-file l = GoesOn (IsReported (option_map (λ k. k.now) l.beside.machine) (option_map (λ b. b.now) l.beside.definition) (option_map (λ b. b.now) l.beside.mocks)) l.files (drop l.file-index l.files) l.all.items
