use Rattle.std.proofs.Common.{◌≡◌, ◌+◌, ◌*◌, take}
use Rattle.std.specs.Prelude.{map}
use Rattle.asl_json_data.specs.Data.{chain, items_depth, members_size}
use Rattle.asl_choice.specs.Rules.{rule_object, condition_named}
use Rattle.asl_choice.proofs.copies.+copy.Given as goal

abbrev pub decreases-copy_of : goal.decreases-copy_of
decreases-copy_of l = 4 * members_size l.rule.now + 2

abbrev pub decreases-condition_copy : goal.decreases-condition_copy
decreases-condition_copy l = 4 * members_size (condition_named l.condition.now) + 1

abbrev pub decreases-copies_of : goal.decreases-copies_of
decreases-copies_of l = 4 * items_depth (chain (map rule_object l.rules.now.items)) + 3

abbrev pub invariant-copies_of-loop-rule : goal.invariant-copies_of-loop-rule
invariant-copies_of-loop-rule l = l.copies.items ≡ take l.rule-index l.rule-items
