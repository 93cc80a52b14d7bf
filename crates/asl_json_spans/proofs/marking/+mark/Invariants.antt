use Rattle.std.proofs.Common.{◌≡◌, ◌+◌, ◌*◌, ◌++◌, drop}
use Rattle.asl_json_data.specs.Data.{chain, pairs, depth, items_depth, members_depth}
use Rattle.asl_json.specs.View.{data_of, items_of, members_of}
use Rattle.asl_json_spans.specs.private.Marks.{behind_list, behind_items, behind_dict, behind_members, item_marks, member_marks}
use Rattle.asl_json_spans.proofs.marking.+mark.Given as goal

abbrev pub decreases-mark_value : goal.decreases-mark_value
decreases-mark_value l = 4 * depth (data_of l.value.now) + 1

abbrev pub decreases-mark_inside : goal.decreases-mark_inside
decreases-mark_inside l = 4 * depth (data_of l.value.now)

abbrev pub decreases-mark_items : goal.decreases-mark_items
decreases-mark_items l = 4 * items_depth (chain l.items.now) + 2

abbrev pub decreases-mark_members : goal.decreases-mark_members
decreases-mark_members l = 4 * members_depth (pairs l.members.now) + 2

abbrev pub invariant-mark_items-loop-item : goal.invariant-mark_items-loop-item
invariant-mark_items-loop-item l = record {
  left : behind_items (chain (items_of (drop l.item-index l.values))) l.rest ≡ behind_list (chain (items_of l.values)) l.bytes;
  added : l.nodes.items ++ item_marks l.len (chain (items_of (drop l.item-index l.values))) l.rest ≡ l.fn.nodes.items ++ item_marks l.len (chain (items_of l.values)) l.bytes;
}

abbrev pub invariant-mark_members-loop-member : goal.invariant-mark_members-loop-member
invariant-mark_members-loop-member l = record {
  left : behind_members (pairs (members_of (drop l.member-index l.pairs))) l.rest ≡ behind_dict (pairs (members_of l.pairs)) l.bytes;
  added : l.nodes.items ++ member_marks l.len (pairs (members_of (drop l.member-index l.pairs))) l.rest ≡ l.fn.nodes.items ++ member_marks l.len (pairs (members_of l.pairs)) l.bytes;
}
