use Rattle.std.proofs.Common.{◌≡◌, ◌+◌, ◌*◌, drop}
use Rattle.asl_json_data.specs.Data.{chain, pairs, depth, items_depth, members_depth}
use Rattle.asl_json.specs.View.{data_of, items_of, members_of}
use Rattle.asl_suite_file.specs.Holding.{are_held, each_is_held}
use Rattle.asl_suite_file.proofs.holding.+held.Given as goal

abbrev pub decreases-is_held : goal.decreases-is_held
decreases-is_held l = 2 * depth (data_of l.wanted.now)

abbrev pub decreases-are_held : goal.decreases-are_held
decreases-are_held l = 2 * items_depth (chain l.wanted.now) + 1

abbrev pub decreases-each_is_held : goal.decreases-each_is_held
decreases-each_is_held l = 2 * members_depth (pairs l.wanted.now) + 1

-- what is left decides

abbrev pub invariant-are_held-loop-i : goal.invariant-are_held-loop-i
invariant-are_held-loop-i l = are_held (chain (items_of (drop l.i l.items))) (chain (items_of (drop l.i l.others))) ≡ are_held (chain (items_of l.items)) (chain (items_of l.others))

abbrev pub invariant-each_is_held-loop-member : goal.invariant-each_is_held-loop-member
invariant-each_is_held-loop-member l = each_is_held (pairs (members_of (drop l.member-index l.members))) (pairs l.came) ≡ each_is_held (pairs (members_of l.members)) (pairs l.came)
