use Rattle.std.proofs.Common.{◌≡◌, ◌+◌, ◌*◌, [], drop}
use Rattle.asl_json_data.specs.Data.{chain, pairs, depth, items_depth, members_depth}
use Rattle.asl_json.specs.View.{data_of, items_of, members_of}
use Rattle.asl_mock_sample.specs.Merging.{merged_members, merged_items}
use Rattle.asl_mock_sample.proofs.merging.+merge.Given as goal

abbrev pub invariant-merged_members-loop-member : goal.invariant-merged_members-loop-member
invariant-merged_members-loop-member l = merged_members l.members (pairs (members_of (drop l.member-index l.member-items))) (pairs l.other) ≡ merged_members [] (pairs (members_of l.member-items)) (pairs l.other)

abbrev pub invariant-merged_items-loop-number : goal.invariant-merged_items-loop-number
invariant-merged_items-loop-number l = merged_items (items_of l.values.items) (chain (items_of (drop l.number l.one))) (chain (items_of (drop l.number l.other))) ≡ merged_items [] (chain (items_of l.one)) (chain (items_of l.other))

abbrev pub decreases-merged : goal.decreases-merged
decreases-merged l = 3 * depth (data_of l.one.now)

abbrev pub decreases-merged_part : goal.decreases-merged_part
decreases-merged_part l = 3 * depth (data_of l.one.now) + 1

abbrev pub decreases-merged_items : goal.decreases-merged_items
decreases-merged_items l = 3 * items_depth (chain l.one.now) + 2

abbrev pub decreases-merged_members : goal.decreases-merged_members
decreases-merged_members l = 3 * members_depth (pairs l.one.now) + 2
