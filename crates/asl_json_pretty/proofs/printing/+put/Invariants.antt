use Rattle.std.proofs.Common.{◌≡◌, ◌+◌, ◌*◌, ◌∷◌, ◌++◌, drop}
use Rattle.std.specs.Prelude.{string_bytes}
use Rattle.asl_json_data.specs.Data.{chain, pairs, depth, items_depth, members_depth}
use Rattle.asl_json.specs.View.{data_of, items_of, members_of}
use Rattle.asl_json_pretty.specs.Pretty.{pretty_items, pretty_members}
use Rattle.asl_json_pretty.proofs.Parts.{items_left, members_left}
use Rattle.asl_json_pretty.proofs.printing.+put.Given as goal

abbrev pub invariant-put_items-loop-i : goal.invariant-put_items-loop-i
invariant-put_items-loop-i l = string_bytes l.out ++ items_left l.line l.i (chain (items_of (drop l.i l.item-items))) ≡ string_bytes l.fn.out ++ 91 ∷ pretty_items l.line (chain (items_of l.item-items))

abbrev pub invariant-put_members-loop-i : goal.invariant-put_members-loop-i
invariant-put_members-loop-i l = string_bytes l.out ++ members_left l.line l.i (pairs (members_of (drop l.i l.member-items))) ≡ string_bytes l.fn.out ++ 123 ∷ pretty_members l.line (pairs (members_of l.member-items))

abbrev pub decreases-put_at : goal.decreases-put_at
decreases-put_at l = 2 * depth (data_of l.value.now)

abbrev pub decreases-put_items : goal.decreases-put_items
decreases-put_items l = 2 * items_depth (chain l.items.now) + 1

abbrev pub decreases-put_members : goal.decreases-put_members
decreases-put_members l = 2 * members_depth (pairs l.members.now) + 1
