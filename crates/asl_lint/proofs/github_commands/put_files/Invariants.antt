use Rattle.std.proofs.Common.{◌≡◌, ◌++◌, drop}
use Rattle.std.specs.Prelude.{string_bytes}
use Rattle.std.specs.List.{flat_map}
use Rattle.asl_lint.specs.Github.{file_commands}
use Rattle.asl_lint.proofs.github_commands.put_files.Given as goal

-- the commands so far and those of the files that are left are those of all
abbrev pub invariant-loop-file : goal.invariant-loop-file
invariant-loop-file l = string_bytes l.out ++ flat_map file_commands (drop l.file-index l.files) ≡ string_bytes l.fn.out ++ flat_map file_commands l.files
