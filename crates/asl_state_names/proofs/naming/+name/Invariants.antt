use Rattle.std.proofs.Common.{◌≡◌, ◌+◌, ◌*◌, ◌++◌, drop}
use Rattle.asl_json_data.specs.Data.{chain, pairs, depth}
use Rattle.asl_json.specs.View.{data_of, items_of, members_of}
use Rattle.asl_state_names.specs.Names.{in_machine, in_states, in_state, in_branches}
use Rattle.asl_state_names.proofs.naming.+name.Given as goal

abbrev pub decreases-add_machine : goal.decreases-add_machine
decreases-add_machine l = 4 * depth (data_of l.machine.now)

abbrev pub decreases-add_machine_part : goal.decreases-add_machine_part
decreases-add_machine_part l = 4 * depth (data_of l.member.now.value) + 1

abbrev pub decreases-add_states : goal.decreases-add_states
decreases-add_states l = 4 * depth (data_of l.among.now)

abbrev pub decreases-add_state : goal.decreases-add_state
decreases-add_state l = 4 * depth (data_of l.state.now)

abbrev pub decreases-add_state_part : goal.decreases-add_state_part
decreases-add_state_part l = 4 * depth (data_of l.member.now.value) + 1

abbrev pub decreases-add_branches : goal.decreases-add_branches
decreases-add_branches l = 4 * depth (data_of l.branches.now)

-- the names so far and those of what is left are all

abbrev pub invariant-add_machine-loop-i : goal.invariant-add_machine-loop-i
invariant-add_machine-loop-i l = l.names.items ++ in_machine l.place l.i (pairs (members_of (drop l.i l.member-items))) ≡ l.fn.names.items ++ in_machine l.place 0 (pairs (members_of l.member-items))

abbrev pub invariant-add_states-loop-i : goal.invariant-add_states-loop-i
invariant-add_states-loop-i l = l.names.items ++ in_states l.machine l.place l.i (pairs (members_of (drop l.i l.state-items))) ≡ l.fn.names.items ++ in_states l.machine l.place 0 (pairs (members_of l.state-items))

abbrev pub invariant-add_state-loop-i : goal.invariant-add_state-loop-i
invariant-add_state-loop-i l = l.names.items ++ in_state l.machine l.place l.i (pairs (members_of (drop l.i l.member-items))) ≡ l.fn.names.items ++ in_state l.machine l.place 0 (pairs (members_of l.member-items))

abbrev pub invariant-add_branches-loop-i : goal.invariant-add_branches-loop-i
invariant-add_branches-loop-i l = l.names.items ++ in_branches l.place l.i (chain (items_of (drop l.i l.branch-items))) ≡ l.fn.names.items ++ in_branches l.place 0 (chain (items_of l.branch-items))
