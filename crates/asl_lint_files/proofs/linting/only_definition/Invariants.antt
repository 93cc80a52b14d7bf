use Rattle.std.proofs.Common.{◌≡◌, ◌++◌, drop}
use Rattle.std.specs.Prelude.{option_map}
use Rattle.asl_lint_files.specs.Linted.{is_definition, only, texts_of}
use Rattle.asl_lint_files.proofs.Paired.{listed}
use Rattle.asl_lint_files.proofs.linting.only_definition.Given as goal

-- the one so far, and those of what is left
abbrev pub invariant-loop-file : goal.invariant-loop-file
invariant-loop-file l = only (listed (option_map (λ b. b.now) l.found) ++ texts_of is_definition (drop l.file-index l.files)) ≡ only (texts_of is_definition l.files)
