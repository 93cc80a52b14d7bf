use Rattle.std.proofs.Common.{◌≡◌, ◌++◌, drop}
use Rattle.std.specs.Prelude.{string_bytes}
use Rattle.std.specs.List.{flat_map}
use Rattle.asl_suite_coverage.specs.LcovText.{line_line}
use Rattle.asl_suite_coverage.proofs.tracefile.put_lines.Given as goal

-- those so far and those of what is left are those of all
abbrev pub invariant-loop-line : goal.invariant-loop-line
invariant-loop-line l = string_bytes l.out ++ flat_map line_line (drop l.line-index l.lines) ≡ string_bytes l.fn.out ++ flat_map line_line l.lines
