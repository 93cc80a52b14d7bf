use Rattle.std.proofs.Common.{◌≡◌, ◌++◌, ◌+◌, ◌*◌, drop, string_bytes}
use Rattle.asl_json_data.specs.Data.{chain, pairs, depth, items_depth, members_depth}
use Rattle.asl_json.specs.View.{data_of, items_of, members_of}
use Rattle.asl_json_diff.specs.Changes.{item_changes, member_changes}
use Rattle.asl_json_diff.proofs.changes.+changes.Given as goal

-- the lines so far and those of what is left are all
abbrev pub invariant-put_items-loop-number : goal.invariant-put_items-loop-number
invariant-put_items-loop-number l = string_bytes l.out ++ item_changes l.lead l.place l.number (chain (items_of (drop l.number l.old))) (chain (items_of (drop l.number l.new))) ≡ string_bytes l.fn.out ++ item_changes l.lead l.place 0 (chain (items_of l.old)) (chain (items_of l.new))

abbrev pub invariant-put_members-loop-member : goal.invariant-put_members-loop-member
invariant-put_members-loop-member l = string_bytes l.out ++ member_changes l.lead l.place (pairs (members_of (drop l.member-index l.member-items))) (pairs l.new) ≡ string_bytes l.fn.out ++ member_changes l.lead l.place (pairs (members_of l.member-items)) (pairs l.new)

abbrev pub decreases-put_between : goal.decreases-put_between
decreases-put_between l = 3 * depth (data_of l.old.now)

abbrev pub decreases-put_part : goal.decreases-put_part
decreases-put_part l = 3 * depth (data_of l.old.now) + 1

abbrev pub decreases-put_items : goal.decreases-put_items
decreases-put_items l = 3 * items_depth (chain l.old.now) + 2

abbrev pub decreases-put_members : goal.decreases-put_members
decreases-put_members l = 3 * members_depth (pairs l.old.now) + 2
