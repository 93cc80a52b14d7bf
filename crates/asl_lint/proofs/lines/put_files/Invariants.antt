use Rattle.std.proofs.Common.{◌≡◌, ◌++◌, drop}
use Rattle.std.specs.Prelude.{string_bytes}
use Rattle.std.specs.List.{flat_map}
use Rattle.asl_lint.specs.Lines.{file_lines}
use Rattle.asl_lint.proofs.lines.put_files.Given as goal

-- the lines so far and those of the files that are left are those of all
abbrev pub invariant-loop-file : goal.invariant-loop-file
invariant-loop-file l = string_bytes l.out ++ flat_map file_lines (drop l.file-index l.files) ≡ string_bytes l.fn.out ++ flat_map file_lines l.files
