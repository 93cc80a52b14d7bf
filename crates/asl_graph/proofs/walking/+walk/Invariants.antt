use Rattle.std.proofs.Common.{◌≡◌, ◌+◌, ◌*◌, ◌++◌, drop}
use Rattle.std.specs.Prelude.{string_bytes}
use Rattle.asl_json_data.specs.Data.{chain, pairs, depth}
use Rattle.asl_json.specs.View.{data_of, items_of, members_of}
use Rattle.asl_graph.specs.Graphs.{in_machine, in_states, in_state, in_branches}
use Rattle.asl_graph.proofs.walking.+walk.Given as goal

abbrev pub decreases-put_machine_lines : goal.decreases-put_machine_lines
decreases-put_machine_lines l = 4 * depth (data_of l.machine.now)

abbrev pub decreases-put_machine_part : goal.decreases-put_machine_part
decreases-put_machine_part l = 4 * depth (data_of l.value.now) + 1

abbrev pub decreases-put_states_lines : goal.decreases-put_states_lines
decreases-put_states_lines l = 4 * depth (data_of l.states.now)

abbrev pub decreases-put_inner_lines : goal.decreases-put_inner_lines
decreases-put_inner_lines l = 4 * depth (data_of l.state.now)

abbrev pub decreases-put_state_part : goal.decreases-put_state_part
decreases-put_state_part l = 4 * depth (data_of l.value.now) + 2

abbrev pub decreases-put_branches : goal.decreases-put_branches
decreases-put_branches l = 4 * depth (data_of l.branches.now)

abbrev pub decreases-put_boxed : goal.decreases-put_boxed
decreases-put_boxed l = 4 * depth (data_of l.machine.now) + 1

-- the lines so far and those of what is left are those of all

abbrev pub invariant-put_machine_lines-loop-member : goal.invariant-put_machine_lines-loop-member
invariant-put_machine_lines-loop-member l = string_bytes l.out ++ in_machine l.language l.edges l.key (pairs (members_of (drop l.member-index l.member-items))) ≡ string_bytes l.fn.out ++ in_machine l.language l.edges l.key (pairs (members_of l.member-items))

abbrev pub invariant-put_states_lines-loop-member : goal.invariant-put_states_lines-loop-member
invariant-put_states_lines-loop-member l = string_bytes l.out ++ in_states l.language l.edges l.key (pairs (members_of (drop l.member-index l.member-items))) ≡ string_bytes l.fn.out ++ in_states l.language l.edges l.key (pairs (members_of l.member-items))

abbrev pub invariant-put_inner_lines-loop-member : goal.invariant-put_inner_lines-loop-member
invariant-put_inner_lines-loop-member l = string_bytes l.out ++ in_state l.language l.edges l.name (pairs (members_of (drop l.member-index l.member-items))) ≡ string_bytes l.fn.out ++ in_state l.language l.edges l.name (pairs (members_of l.member-items))

abbrev pub invariant-put_branches-loop-number : goal.invariant-put_branches-loop-number
invariant-put_branches-loop-number l = string_bytes l.out ++ in_branches l.language l.edges l.name l.number (chain (items_of (drop l.number l.branch-items))) ≡ string_bytes l.fn.out ++ in_branches l.language l.edges l.name 0 (chain (items_of l.branch-items))
