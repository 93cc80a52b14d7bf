use Rattle.std.proofs.Common.{◌≡◌, ◌+◌, ◌*◌, drop}
use Rattle.asl_json_data.specs.Data.{chain, pairs, depth, items_depth, members_depth}
use Rattle.asl_json.specs.View.{data_of, items_of, members_of}
use Rattle.asl_json.specs.Meaning.{same_items, each_in}
use Rattle.asl_json_same.proofs.sameness.+same.Given as goal

abbrev pub decreases-same : goal.decreases-same
decreases-same l = 2 * depth (data_of l.a.now)

abbrev pub decreases-same_lists : goal.decreases-same_lists
decreases-same_lists l = 2 * items_depth (chain l.a.now) + 1

abbrev pub decreases-has_each : goal.decreases-has_each
decreases-has_each l = 2 * members_depth (pairs l.a.now) + 1

abbrev pub invariant-same_lists-loop-i : goal.invariant-same_lists-loop-i
invariant-same_lists-loop-i l = same_items (chain (items_of (drop l.i l.items))) (chain (items_of (drop l.i l.others))) ≡ same_items (chain (items_of l.items)) (chain (items_of l.others))

abbrev pub invariant-has_each-loop-i : goal.invariant-has_each-loop-i
invariant-has_each-loop-i l = each_in (pairs (members_of (drop l.i l.member-items))) (pairs l.b) ≡ each_in (pairs (members_of l.member-items)) (pairs l.b)
