use Rattle.std.proofs.Common.{◌≡◌, ◌++◌, drop}
use Rattle.std.specs.Prelude.{string_bytes}
use Rattle.asl_lint.specs.Sarif.{rule_object}
use Rattle.asl_lint.specs.private.Writing.{more_items}
use Rattle.asl_lint.proofs.sarif_log.put_each_rule.Given as goal

-- the rules so far and those that are left are all
abbrev pub invariant-loop-rule : goal.invariant-loop-rule
invariant-loop-rule l = string_bytes l.out ++ more_items rule_object l.is_begun (drop l.rule-index l.rules) ≡ string_bytes l.fn.out ++ more_items rule_object l.fn.is_begun l.rules
