use Rattle.std.proofs.Common.{◌≡◌, ◌+◌, ◌*◌, ◌++◌, drop}
use Rattle.asl_json_data.specs.Data.{chain, pairs, depth}
use Rattle.asl_json.specs.View.{data_of, items_of, members_of}
use Rattle.asl_lint_choices.specs.Ands.{in_members, in_items}
use Rattle.asl_lint_choices.specs.View.{all_told}
use Rattle.asl_lint_choices.proofs.ands.+walk.Given as goal

abbrev pub decreases-add_in_rule : goal.decreases-add_in_rule
decreases-add_in_rule l = 4 * depth (data_of l.rule.now)

abbrev pub decreases-add_in_member : goal.decreases-add_in_member
decreases-add_in_member l = 4 * depth (data_of l.member.now.value) + 2

abbrev pub decreases-add_and : goal.decreases-add_and
decreases-add_and l = 4 * depth (data_of l.rules.now) + 1

abbrev pub decreases-add_in_rules : goal.decreases-add_in_rules
decreases-add_in_rules l = 4 * depth (data_of l.rules.now)

-- what was told so far and what is in the rest are all

abbrev pub invariant-add_in_rule-loop-member : goal.invariant-add_in_rule-loop-member
invariant-add_in_rule-loop-member l = all_told l.found.items ++ in_members l.place (pairs (members_of (drop l.member-index l.member-items))) ≡ all_told l.fn.found.items ++ in_members l.place (pairs (members_of l.member-items))

abbrev pub invariant-add_in_rules-loop-number : goal.invariant-add_in_rules-loop-number
invariant-add_in_rules-loop-number l = all_told l.found.items ++ in_items l.place l.number (chain (items_of (drop l.number l.rule-items))) ≡ all_told l.fn.found.items ++ in_items l.place 0 (chain (items_of l.rule-items))
