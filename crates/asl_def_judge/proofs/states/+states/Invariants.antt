use Rattle.std.proofs.Common.{ℕ, List, ◌+◌, ◌*◌, drop}
use Rattle.asl_json_data.specs.Data.{pairs, chain, depth, members_depth, items_depth}
use Rattle.asl_json.specs.View.{data_of, items_of, members_of}
use Rattle.asl_def_schema.specs.private.Code.{shape_seen}
use Rattle.asl_def_schema.specs.States.{Has, item_states, member_states}
use Rattle.asl_def_judge.proofs.Doubles.{Continues}
use Rattle.asl_def_judge.proofs.states.+states.Given as goal

abbrev pub decreases-with_states : goal.decreases-with_states
decreases-with_states l = 4 * depth (data_of l.value.now)

abbrev pub decreases-with_items : goal.decreases-with_items
decreases-with_items l = 4 * items_depth (chain l.items.now) + 3

abbrev pub decreases-with_members : goal.decreases-with_members
decreases-with_members l = 4 * members_depth (pairs l.members.now) + 3

abbrev pub decreases-with_member : goal.decreases-with_member
decreases-with_member l = 4 * depth (data_of l.member.now.value) + 1

abbrev pub invariant-with_items-loop-i : goal.invariant-with_items-loop-i
invariant-with_items-loop-i l = (ks : List (List ℕ)) → Has l.fn.seen ks → Continues ks l.seen (item_states l.sort l.i (chain (items_of (drop l.i l.values)))) (item_states l.sort 0 (chain (items_of l.values)))

abbrev pub invariant-with_members-loop-i : goal.invariant-with_members-loop-i
invariant-with_members-loop-i l = (ks : List (List ℕ)) → Has l.fn.seen ks → Continues ks l.seen (member_states (shape_seen l.shape) l.i (pairs (members_of (drop l.i l.pairs)))) (member_states (shape_seen l.shape) 0 (pairs (members_of l.pairs)))
