use Rattle.std.proofs.Common.{◌+◌, ◌*◌, drop}
use Rattle.asl_json_data.specs.Data.{chain, pairs, depth, items_depth, members_depth}
use Rattle.asl_json.specs.View.{data_of, items_of, members_of}
use Rattle.asl_intrinsic_functions.proofs.Marking.{ItemsLeft, MembersLeft}
use Rattle.asl_intrinsic_functions.proofs.mark.+mark.Given as goal

abbrev pub decreases-mark : goal.decreases-mark
decreases-mark l = 2 * depth (data_of l.value.now)

abbrev pub decreases-items_mark : goal.decreases-items_mark
decreases-items_mark l = 2 * items_depth (chain l.items.now) + 1

abbrev pub decreases-members_mark : goal.decreases-members_mark
decreases-members_mark l = 2 * members_depth (pairs l.members.now) + 1

abbrev pub invariant-items_mark-loop-value : goal.invariant-items_mark-loop-value
invariant-items_mark-loop-value l = ItemsLeft l.so_far (items_of (drop l.value-index l.values)) l.items

abbrev pub invariant-members_mark-loop-member : goal.invariant-members_mark-loop-member
invariant-members_mark-loop-member l = MembersLeft l.so_far (members_of (drop l.member-index l.pairs)) l.members
