use Rattle.std.proofs.Common.{◌≡◌, ◌∷◌, length, ◌+◌, ◌*◌, drop}
use Rattle.asl_json_data.specs.Data.{chain, pairs, depth, items_depth, members_depth}
use Rattle.asl_json.specs.View.{data_of, items_of, members_of}
use Rattle.asl_json_data.specs.Compact.{compact_items, compact_members}
use Rattle.asl_json_write.proofs.Parts.{items_left, members_left}
use Rattle.asl_json_write.proofs.within.+room.Given as goal

abbrev pub invariant-room_behind_items-loop-i : goal.invariant-room_behind_items-loop-i
invariant-room_behind_items-loop-i l = length (compact_items (chain (items_of l.item-items))) + l.left + 1 ≡ l.fn.room + length (items_left l.i (chain (items_of (drop l.i l.item-items))))

abbrev pub invariant-room_behind_members-loop-i : goal.invariant-room_behind_members-loop-i
invariant-room_behind_members-loop-i l = length (compact_members (pairs (members_of l.member-items))) + l.left + 1 ≡ l.fn.room + length (members_left l.i (pairs (members_of (drop l.i l.member-items))))

abbrev pub decreases-room_behind : goal.decreases-room_behind
decreases-room_behind l = 2 * depth (data_of l.value.now)

abbrev pub decreases-room_behind_items : goal.decreases-room_behind_items
decreases-room_behind_items l = 2 * items_depth (chain l.items.now) + 1

abbrev pub decreases-room_behind_members : goal.decreases-room_behind_members
decreases-room_behind_members l = 2 * members_depth (pairs l.members.now) + 1
