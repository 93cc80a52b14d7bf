use Rattle.std.proofs.Common.{◌≡◌, ◌+◌, ◌*◌, drop}
use Rattle.asl_json_data.specs.Data.{chain, pairs, depth, items_depth, members_depth}
use Rattle.asl_json.specs.View.{data_of, items_of, members_of}
use Rattle.asl_mock_sample.specs.Merging.{anything}
use Rattle.asl_mock_sample.specs.Rules.{rule_members, rule_items}
use Rattle.asl_mock_sample.proofs.rules.+rules.Given as goal

abbrev pub invariant-rule_members-loop-member : goal.invariant-rule_members-loop-member
invariant-rule_members-loop-member l = rule_members (data_of l.leaf) (data_of l.wants) (pairs (members_of (drop l.member-index l.member-items))) ≡ rule_members (data_of l.leaf) anything (pairs (members_of l.member-items))

abbrev pub invariant-rule_items-loop-rule : goal.invariant-rule_items-loop-rule
invariant-rule_items-loop-rule l = rule_items (data_of l.wants) (chain (items_of (drop l.rule-index l.rule-items))) ≡ rule_items anything (chain (items_of l.rule-items))

abbrev pub decreases-rule_wants : goal.decreases-rule_wants
decreases-rule_wants l = 3 * depth (data_of l.rule.now)

abbrev pub decreases-rules_wants : goal.decreases-rules_wants
decreases-rules_wants l = 3 * depth (data_of l.rules.now)

abbrev pub decreases-rule_member : goal.decreases-rule_member
decreases-rule_member l = 3 * depth (data_of l.member.now.value) + 1

abbrev pub decreases-rule_members : goal.decreases-rule_members
decreases-rule_members l = 3 * members_depth (pairs l.members.now) + 2

abbrev pub decreases-rule_items : goal.decreases-rule_items
decreases-rule_items l = 3 * items_depth (chain l.rules.now) + 2
