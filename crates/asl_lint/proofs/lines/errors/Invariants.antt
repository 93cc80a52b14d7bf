use Rattle.std.proofs.Common.{◌≡◌, ◌++◌, drop}
use Rattle.std.specs.Prelude.{string_bytes}
use Rattle.asl_lint.specs.Lines.{error_lines}
use Rattle.asl_lint.proofs.lines.errors.Given as goal

-- the lines so far and those of what is left are those of all
abbrev pub invariant-loop-finding : goal.invariant-loop-finding
invariant-loop-finding l = string_bytes l.out ++ error_lines l.file (drop l.finding-index l.findings) ≡ error_lines l.file l.findings
