use Rattle.std.proofs.Common.{◌≡◌, ◌+◌, ◌*◌, drop}
use Rattle.std.specs.Prelude.{map}
use Rattle.asl_json_data.specs.Data.{chain, items_depth, members_size}
use Rattle.asl_json.specs.Same.{equal_items}
use Rattle.asl_choice.specs.Rules.{rule_object, condition_named}
use Rattle.asl_choice.proofs.equal.+equal.Given as goal

abbrev pub decreases-equals : goal.decreases-equals
decreases-equals l = 4 * members_size l.a.now + 2

abbrev pub decreases-equals_condition : goal.decreases-equals_condition
decreases-equals_condition l = 4 * members_size (condition_named l.a.now) + 1

abbrev pub decreases-equals_rules : goal.decreases-equals_rules
decreases-equals_rules l = 4 * items_depth (chain (map rule_object l.a.now.items)) + 3

abbrev pub invariant-equals_rules-loop-i : goal.invariant-equals_rules-loop-i
invariant-equals_rules-loop-i l = equal_items (chain (map rule_object (drop l.i l.a.items))) (chain (map rule_object (drop l.i l.b.items))) ≡ equal_items (chain (map rule_object l.a.items)) (chain (map rule_object l.b.items))
