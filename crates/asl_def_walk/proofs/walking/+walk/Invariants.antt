use Rattle.std.proofs.Common.{◌≡◌, ◌+◌, ◌*◌, ◌++◌, drop}
use Rattle.std.specs.Prelude.{map}
use Rattle.asl_json_data.specs.Data.{chain, pairs, depth}
use Rattle.asl_json.specs.View.{data_of, items_of, member_of, members_of}
use Rattle.asl_def_walk.specs.States.{in_machine, in_states, in_state, in_branches}
use Rattle.asl_def_walk.proofs.walking.+walk.Given as goal

abbrev pub decreases-add_machine : goal.decreases-add_machine
decreases-add_machine l = 4 * depth (data_of l.machine.now)

abbrev pub decreases-add_machine_part : goal.decreases-add_machine_part
decreases-add_machine_part l = 4 * depth (data_of l.member.now.value) + 1

abbrev pub decreases-add_states : goal.decreases-add_states
decreases-add_states l = 4 * depth (data_of l.among.now)

abbrev pub decreases-add_inner : goal.decreases-add_inner
decreases-add_inner l = 4 * depth (data_of l.state.now)

abbrev pub decreases-add_state_part : goal.decreases-add_state_part
decreases-add_state_part l = 4 * depth (data_of l.member.now.value) + 1

abbrev pub decreases-add_branches : goal.decreases-add_branches
decreases-add_branches l = 4 * depth (data_of l.branches.now)

-- the states so far and those of what is left are all

abbrev pub invariant-add_machine-loop-member : goal.invariant-add_machine-loop-member
invariant-add_machine-loop-member l = map (λ m. member_of m.now) l.states.items ++ in_machine (pairs (members_of (drop l.member-index l.member-items))) ≡ map (λ m. member_of m.now) l.fn.states.items ++ in_machine (pairs (members_of l.member-items))

abbrev pub invariant-add_states-loop-state : goal.invariant-add_states-loop-state
invariant-add_states-loop-state l = map (λ m. member_of m.now) l.states.items ++ in_states (pairs (members_of (drop l.state-index l.state-items))) ≡ map (λ m. member_of m.now) l.fn.states.items ++ in_states (pairs (members_of l.state-items))

abbrev pub invariant-add_inner-loop-member : goal.invariant-add_inner-loop-member
invariant-add_inner-loop-member l = map (λ m. member_of m.now) l.states.items ++ in_state (pairs (members_of (drop l.member-index l.member-items))) ≡ map (λ m. member_of m.now) l.fn.states.items ++ in_state (pairs (members_of l.member-items))

abbrev pub invariant-add_branches-loop-branch : goal.invariant-add_branches-loop-branch
invariant-add_branches-loop-branch l = map (λ m. member_of m.now) l.states.items ++ in_branches (chain (items_of (drop l.branch-index l.branch-items))) ≡ map (λ m. member_of m.now) l.fn.states.items ++ in_branches (chain (items_of l.branch-items))
