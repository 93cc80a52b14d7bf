use Rattle.std.proofs.Common.{◌≡◌, ◌+◌, ◌*◌, take}
use Rattle.std.specs.Prelude.{map}
use Rattle.asl_json_data.specs.Data.{chain, items_depth, members_size}
use Rattle.asl_json.specs.View.{items_of}
use Rattle.asl_choice.specs.Rules.{rule_object, condition_named}
use Rattle.asl_choice.proofs.rule.+members.Given as goal

abbrev pub decreases-Rule::members : goal.decreases-Rule::members
decreases-Rule::members l = 4 * members_size l.self.now + 2

abbrev pub decreases-condition_members : goal.decreases-condition_members
decreases-condition_members l = 4 * members_size (condition_named l.condition.now) + 1

abbrev pub decreases-rule_value : goal.decreases-rule_value
decreases-rule_value l = 4 * members_size l.rule.now + 3

abbrev pub decreases-rules_value : goal.decreases-rules_value
decreases-rules_value l = 4 * items_depth (chain (map rule_object l.rules.now.items)) + 4

abbrev pub invariant-rules_value-loop-rule : goal.invariant-rules_value-loop-rule
invariant-rules_value-loop-rule l = items_of l.values.items ≡ map rule_object (take l.rule-index l.rule-items)
