use Rattle.std.proofs.Common.{◌≡◌, ◌++◌, drop}
use Rattle.std.specs.Prelude.{string_bytes}
use Rattle.std.specs.List.{flat_map}
use Rattle.asl_lint.specs.Github.{command_line}
use Rattle.asl_lint.proofs.github_commands.put_findings.Given as goal

-- the commands so far and those of what is left are those of all
abbrev pub invariant-loop-finding : goal.invariant-loop-finding
invariant-loop-finding l = string_bytes l.out ++ flat_map (command_line l.file) (drop l.finding-index l.findings) ≡ string_bytes l.fn.out ++ flat_map (command_line l.file) l.findings
