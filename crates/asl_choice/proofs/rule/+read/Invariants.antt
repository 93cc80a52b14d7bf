use Rattle.std.proofs.Common.{◌≡◌, ◌+◌, ◌*◌, take}
use Rattle.std.specs.Prelude.{map}
use Rattle.asl_json_data.specs.Data.{pairs, depth, members_depth}
use Rattle.asl_json.specs.View.{data_of, members_of}
use Rattle.asl_choice.specs.Rules.{rule_object}
use Rattle.asl_choice.proofs.Shows.{canonical_rules}
use Rattle.asl_choice.proofs.rule.+read.Given as goal

abbrev pub decreases-Rule::read : goal.decreases-Rule::read
decreases-Rule::read l = 4 * members_depth (pairs (members_of l.members.now)) + 3

abbrev pub decreases-condition_of : goal.decreases-condition_of
decreases-condition_of l = 4 * depth (data_of l.value.now) + 2

abbrev pub decreases-rules : goal.decreases-rules
decreases-rules l = 4 * depth (data_of l.value.now) + 1

abbrev pub decreases-inner_rule : goal.decreases-inner_rule
decreases-inner_rule l = 4 * depth (data_of l.value.now)

abbrev pub invariant-rules-loop-item : goal.invariant-rules-loop-item
invariant-rules-loop-item l = map rule_object l.rules.items ≡ canonical_rules (take l.item-index l.values)
