use Rattle.std.proofs.Common.{◌≡◌, ◌+◌, ◌*◌, ◌++◌, drop}
use Rattle.asl_json_data.specs.Data.{pairs, chain, depth, members_depth, items_depth}
use Rattle.asl_json.specs.View.{data_of, items_of, members_of}
use Rattle.asl_def_schema.specs.private.Code.{shape_seen}
use Rattle.asl_lint_messages.specs.States.{item_states, member_states}
use Rattle.asl_lint_messages.proofs.states.+states.Given as goal

abbrev pub decreases-states_in : goal.decreases-states_in
decreases-states_in l = 4 * depth (data_of l.value.now)

abbrev pub decreases-item_states : goal.decreases-item_states
decreases-item_states l = 4 * items_depth (chain l.items.now) + 3

abbrev pub decreases-member_states : goal.decreases-member_states
decreases-member_states l = 4 * members_depth (pairs l.members.now) + 3

abbrev pub decreases-states_at : goal.decreases-states_at
decreases-states_at l = 4 * depth (data_of l.member.now.value) + 1

abbrev pub invariant-item_states-loop-i : goal.invariant-item_states-loop-i
invariant-item_states-loop-i l = l.all.items ++ item_states l.sort l.i (chain (items_of (drop l.i l.values))) ≡ item_states l.sort 0 (chain (items_of l.values))

abbrev pub invariant-member_states-loop-i : goal.invariant-member_states-loop-i
invariant-member_states-loop-i l = l.all.items ++ member_states (shape_seen l.shape) l.i (pairs (members_of (drop l.i l.pairs))) ≡ member_states (shape_seen l.shape) 0 (pairs (members_of l.pairs))
