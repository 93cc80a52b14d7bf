use Rattle.std.proofs.Common.{◌≡◌, ◌+◌, ◌*◌, ◌++◌, drop}
use Rattle.std.specs.Prelude.{string_bytes}
use Rattle.asl_json_data.specs.Data.{chain, pairs, depth}
use Rattle.asl_json.specs.View.{data_of, items_of, members_of}
use Rattle.asl_graph.specs.Conditions.{in_rule, in_rules}
use Rattle.asl_graph.proofs.conditions.+condition.Given as goal

abbrev pub decreases-put_condition : goal.decreases-put_condition
decreases-put_condition l = 4 * depth (data_of l.rule.now)

abbrev pub decreases-put_rule_part : goal.decreases-put_rule_part
decreases-put_rule_part l = 4 * depth (data_of l.value.now) + 3

abbrev pub decreases-put_any : goal.decreases-put_any
decreases-put_any l = 4 * depth (data_of l.rules.now) + 2

abbrev pub decreases-put_not : goal.decreases-put_not
decreases-put_not l = 4 * depth (data_of l.rule.now) + 2

abbrev pub decreases-put_joined : goal.decreases-put_joined
decreases-put_joined l = 4 * depth (data_of l.rules.now) + 1

-- what was written so far and what is left are all

abbrev pub invariant-put_condition-loop-member : goal.invariant-put_condition-loop-member
invariant-put_condition-loop-member l = string_bytes l.out ++ in_rule l.beside l.variable (pairs (members_of (drop l.member-index l.member-items))) ≡ string_bytes l.fn.out ++ in_rule l.beside l.variable (pairs (members_of l.member-items))

abbrev pub invariant-put_joined-loop-number : goal.invariant-put_joined-loop-number
invariant-put_joined-loop-number l = string_bytes l.out ++ in_rules l.beside l.sign l.number (chain (items_of (drop l.number l.rule-items))) ≡ string_bytes l.fn.out ++ in_rules l.beside l.sign 0 (chain (items_of l.rule-items))
