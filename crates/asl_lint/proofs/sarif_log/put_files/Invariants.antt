use Rattle.std.proofs.Common.{◌≡◌, ◌++◌, drop, false}
use Rattle.std.specs.Prelude.{string_bytes}
use Rattle.asl_lint.specs.private.Writing.{more_results}
use Rattle.asl_lint.proofs.sarif_log.put_files.Given as goal

-- the results so far and those of the files that are left are those of all
abbrev pub invariant-loop-file : goal.invariant-loop-file
invariant-loop-file l = string_bytes l.out ++ more_results l.is_begun (drop l.file-index l.files) ≡ string_bytes l.fn.out ++ more_results false l.files
