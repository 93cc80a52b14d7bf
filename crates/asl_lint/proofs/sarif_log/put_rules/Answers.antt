use Rattle.std.proofs.Common.{refl}
use Rattle.asl_lint.specs.Sarif.{more_rules, rule_object, rules}
use Rattle.asl_lint.proofs.Writing.{both_written}
use Rattle.asl_writing.proofs.Pieces.{right, written}
use Rattle.asl_lint.proofs.sarif_log.put_rules.Goals as goal

pub returns : goal.returns
unfolding rules
returns c =
    written (right c.in_ok-put_char.ensures (right (rw c.rules.ensures at c.in_ok-put_each_rule.ensures) (right (rw c.more_rules.ensures at c.in_ok-put_each_rule-2.ensures) c.in_ok-put_char-2.ensures)))
    (both_written rule_object rule_object rules (more_rules c.args.has_others) refl)
