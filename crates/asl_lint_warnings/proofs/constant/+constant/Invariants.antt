use Rattle.std.proofs.Common.{◌≡◌, ◌+◌, ◌*◌, ◌++◌, drop}
use Rattle.asl_json_data.specs.Data.{pairs, chain, depth, members_depth, items_depth}
use Rattle.asl_json.specs.View.{data_of, items_of, members_of}
use Rattle.asl_lint_warnings.specs.Constants.{constant_items, constant_members}
use Rattle.asl_lint_warnings.specs.private.Trails.{steps_of}
use Rattle.asl_lint_warnings.proofs.constant.+constant.Given as goal

abbrev pub decreases-tell_constant : goal.decreases-tell_constant
decreases-tell_constant l = 4 * depth (data_of l.value.now)

abbrev pub decreases-tell_items : goal.decreases-tell_items
decreases-tell_items l = 4 * items_depth (chain l.items.now) + 3

abbrev pub decreases-tell_members : goal.decreases-tell_members
decreases-tell_members l = 4 * members_depth (pairs l.members.now) + 3

abbrev pub decreases-tell_member : goal.decreases-tell_member
decreases-tell_member l = 4 * depth (data_of l.member.now.value) + 1

-- the warnings so far and those of what is left are all

abbrev pub invariant-tell_items-loop-i : goal.invariant-tell_items-loop-i
invariant-tell_items-loop-i l = l.told.items ++ constant_items (steps_of l.trail) l.i (chain (items_of (drop l.i l.values))) ≡ l.fn.told.items ++ constant_items (steps_of l.trail) 0 (chain (items_of l.values))

abbrev pub invariant-tell_members-loop-i : goal.invariant-tell_members-loop-i
invariant-tell_members-loop-i l = l.told.items ++ constant_members (steps_of l.trail) l.i (pairs (members_of (drop l.i l.pairs))) ≡ l.fn.told.items ++ constant_members (steps_of l.trail) 0 (pairs (members_of l.pairs))
