use Rattle.std.proofs.Common.{◌≡◌, ◌+◌, ◌*◌, ◌++◌, drop}
use Rattle.asl_json_data.specs.Data.{chain, pairs, depth}
use Rattle.asl_json.specs.View.{data_of, items_of, members_of}
use Rattle.asl_task_errors.specs.Tasks.{in_machine, in_states, in_inner, in_branches}
use Rattle.asl_task_errors.specs.View.{all_told, levels_of}
use Rattle.asl_task_errors.proofs.walking.+walk.Given as goal

abbrev pub decreases-add_machine : goal.decreases-add_machine
decreases-add_machine l = 4 * depth (data_of l.machine.now)

abbrev pub decreases-add_machine_part : goal.decreases-add_machine_part
decreases-add_machine_part l = 4 * depth (data_of l.member.now.value) + 1

abbrev pub decreases-add_states : goal.decreases-add_states
decreases-add_states l = 4 * depth (data_of l.among.now)

abbrev pub decreases-add_state : goal.decreases-add_state
decreases-add_state l = 4 * depth (data_of l.state.now.value) + 1

abbrev pub decreases-add_inner : goal.decreases-add_inner
decreases-add_inner l = 4 * depth (data_of l.state.now)

abbrev pub decreases-add_inner_part : goal.decreases-add_inner_part
decreases-add_inner_part l = 4 * depth (data_of l.member.now.value) + 1

abbrev pub decreases-add_branches : goal.decreases-add_branches
decreases-add_branches l = 4 * depth (data_of l.branches.now)

-- the Tasks so far and those of what is left are all

abbrev pub invariant-add_machine-loop-member : goal.invariant-add_machine-loop-member
invariant-add_machine-loop-member l = all_told l.tasks.items ++ in_machine (levels_of l.around) (pairs (members_of (drop l.member-index l.member-items))) ≡ all_told l.fn.tasks.items ++ in_machine (levels_of l.around) (pairs (members_of l.member-items))

abbrev pub invariant-add_states-loop-state : goal.invariant-add_states-loop-state
invariant-add_states-loop-state l = all_told l.tasks.items ++ in_states (levels_of l.around) (pairs (members_of (drop l.state-index l.state-items))) ≡ all_told l.fn.tasks.items ++ in_states (levels_of l.around) (pairs (members_of l.state-items))

abbrev pub invariant-add_inner-loop-member : goal.invariant-add_inner-loop-member
invariant-add_inner-loop-member l = all_told l.tasks.items ++ in_inner (levels_of l.around) (pairs (members_of (drop l.member-index l.member-items))) ≡ all_told l.fn.tasks.items ++ in_inner (levels_of l.around) (pairs (members_of l.member-items))

abbrev pub invariant-add_branches-loop-branch : goal.invariant-add_branches-loop-branch
invariant-add_branches-loop-branch l = all_told l.tasks.items ++ in_branches (levels_of l.around) (chain (items_of (drop l.branch-index l.branch-items))) ≡ all_told l.fn.tasks.items ++ in_branches (levels_of l.around) (chain (items_of l.branch-items))
