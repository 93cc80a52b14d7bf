use Rattle.std.proofs.Common.{◌≡◌, ◌+◌, ◌*◌, ◌++◌, drop}
use Rattle.std.specs.HashSet.{contains_text}
use Rattle.asl_json_data.specs.Data.{pairs, chain, depth, members_depth, items_depth}
use Rattle.asl_json.specs.View.{data_of, items_of, members_of}
use Rattle.asl_def_schema.specs.private.Code.{shape_seen}
use Rattle.asl_lint_warnings.specs.Warnings.{item_warnings, member_warnings}
use Rattle.asl_lint_warnings.specs.private.Spots.{spot_of}
use Rattle.asl_lint_warnings.proofs.walk.+walk.Given as goal

abbrev pub decreases-tell_value : goal.decreases-tell_value
decreases-tell_value l = 4 * depth (data_of l.value.now)

abbrev pub decreases-tell_items : goal.decreases-tell_items
decreases-tell_items l = 4 * items_depth (chain l.items.now) + 3

abbrev pub decreases-tell_object : goal.decreases-tell_object
decreases-tell_object l = 4 * members_depth (pairs l.members.now) + 3

abbrev pub decreases-tell_members : goal.decreases-tell_members
decreases-tell_members l = 4 * members_depth (pairs l.members.now) + 2

-- the warnings so far and those of what is left are all

abbrev pub invariant-tell_items-loop-i : goal.invariant-tell_items-loop-i
invariant-tell_items-loop-i l = l.told.items ++ item_warnings (spot_of l.spot) l.sort (contains_text l.listed) l.i (chain (items_of (drop l.i l.values))) ≡ l.fn.told.items ++ item_warnings (spot_of l.spot) l.sort (contains_text l.initial.listed) 0 (chain (items_of l.values))

abbrev pub invariant-tell_members-loop-i : goal.invariant-tell_members-loop-i
invariant-tell_members-loop-i l = l.told.items ++ member_warnings (spot_of l.spot) l.sort (shape_seen l.shape) (pairs (members_of l.pairs)) l.i (pairs (members_of (drop l.i l.pairs))) ≡ l.fn.told.items ++ member_warnings (spot_of l.spot) l.sort (shape_seen l.shape) (pairs (members_of l.pairs)) 0 (pairs (members_of l.pairs))
