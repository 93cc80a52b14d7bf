use Rattle.std.proofs.Common.{◌≡◌, ◌+◌, ◌*◌, drop}
use Rattle.asl_json_data.specs.Data.{depth, items_depth, members_depth, chain, pairs}
use Rattle.asl_json.specs.View.{data_of, items_of, members_of}
use Rattle.asl_suite_file.specs.Differences.{in_items, in_members, at_unwanted}
use Rattle.asl_suite_file.proofs.difference.+descend.Given as goal

abbrev pub decreases-descend : goal.decreases-descend
decreases-descend l = 2 * depth (data_of l.wanted.now)

abbrev pub decreases-in_lists : goal.decreases-in_lists
decreases-in_lists l = 2 * items_depth (chain l.wanted.now) + 1

abbrev pub decreases-in_objects : goal.decreases-in_objects
decreases-in_objects l = 2 * members_depth (pairs l.wanted.now) + 1

-- it is in what is left

abbrev pub invariant-in_lists-loop-i : goal.invariant-in_lists-loop-i
invariant-in_lists-loop-i l =
    in_items l.likeness l.fn.place 0 (chain (items_of l.wanted)) (chain (items_of l.came))
    ≡ in_items l.likeness l.fn.place l.i (chain (items_of (drop l.i l.wanted))) (chain (items_of (drop l.i l.came)))

abbrev pub invariant-in_objects-loop-member : goal.invariant-in_objects-loop-member
invariant-in_objects-loop-member l =
    in_members l.likeness l.fn.place (pairs (members_of l.members)) (pairs l.came) (at_unwanted l.fn.place (pairs (members_of l.members)) (pairs l.came))
    ≡ in_members l.likeness l.fn.place (pairs (members_of (drop l.member-index l.members))) (pairs l.came) (at_unwanted l.fn.place (pairs (members_of l.members)) (pairs l.came))
