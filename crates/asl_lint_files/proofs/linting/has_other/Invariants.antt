use Rattle.std.proofs.Common.{◌≡◌, drop}
use Rattle.std.specs.List.{list_any}
use Rattle.asl_lint_files.specs.Linted.{is_other}
use Rattle.asl_lint_files.proofs.linting.has_other.Given as goal

-- what is left decides
abbrev pub invariant-loop-file : goal.invariant-loop-file
invariant-loop-file l = list_any (λ t. is_other t.kind) l.files ≡ list_any (λ t. is_other t.kind) (drop l.file-index l.files)
