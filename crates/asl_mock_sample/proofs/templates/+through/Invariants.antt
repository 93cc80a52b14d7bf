use Rattle.std.proofs.Common.{◌≡◌, ◌+◌, ◌*◌, drop}
use Rattle.asl_json_data.specs.Data.{chain, pairs, depth, items_depth, members_depth}
use Rattle.asl_json.specs.View.{data_of, items_of, members_of}
use Rattle.asl_mock_sample.specs.Merging.{anything}
use Rattle.asl_mock_sample.specs.Templates.{through_members, through_items}
use Rattle.asl_mock_sample.proofs.templates.+through.Given as goal

abbrev pub invariant-through_members-loop-member : goal.invariant-through_members-loop-member
invariant-through_members-loop-member l = through_members l.root (data_of l.wants) (pairs (members_of (drop l.member-index l.member-items))) (data_of l.wanted) ≡ through_members l.root anything (pairs (members_of l.member-items)) (data_of l.wanted)

abbrev pub invariant-through_items-loop-item : goal.invariant-through_items-loop-item
invariant-through_items-loop-item l = through_items l.root (data_of l.wants) (chain (items_of (drop l.item-index l.item-items))) ≡ through_items l.root anything (chain (items_of l.item-items))

abbrev pub decreases-through : goal.decreases-through
decreases-through l = 3 * depth (data_of l.template.now)

abbrev pub decreases-through_member : goal.decreases-through_member
decreases-through_member l = 3 * depth (data_of l.member.now.value) + 1

abbrev pub decreases-through_members : goal.decreases-through_members
decreases-through_members l = 3 * members_depth (pairs l.members.now) + 2

abbrev pub decreases-through_items : goal.decreases-through_items
decreases-through_items l = 3 * items_depth (chain l.items.now) + 2
