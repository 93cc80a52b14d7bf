use Rattle.std.proofs.Common.{◌≡◌, ◌++◌, drop}
use Rattle.std.specs.Prelude.{map, string_bytes}
use Rattle.asl_explore_errors.specs.JsonLines.{rule_lines}
use Rattle.asl_explore_errors.proofs.json_lines.put_rule_lines.Given as goal

-- the text so far and that of what is left are the whole
abbrev pub invariant-loop-number : goal.invariant-loop-number
invariant-loop-number l = string_bytes l.out ++ rule_lines l.found l.number (map string_bytes (drop l.number l.rules)) ≡ string_bytes l.fn.out ++ rule_lines l.found 0 (map string_bytes l.rules)
