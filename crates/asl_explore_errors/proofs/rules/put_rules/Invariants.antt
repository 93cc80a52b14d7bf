use Rattle.std.proofs.Common.{◌≡◌, ◌++◌, drop}
use Rattle.std.specs.Prelude.{map, string_bytes}
use Rattle.asl_explore_errors.specs.Rules.{rules_from}
use Rattle.asl_explore_errors.proofs.rules.put_rules.Given as goal

-- the text so far and that of what is left are the whole
abbrev pub invariant-loop-number : goal.invariant-loop-number
invariant-loop-number l = string_bytes l.out ++ rules_from l.found l.number (map string_bytes (drop l.number l.rules)) ≡ string_bytes l.fn.out ++ rules_from l.found 0 (map string_bytes l.rules)
