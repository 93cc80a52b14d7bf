use Rattle.std.proofs.Common.{◌+◌, ◌*◌, take, drop, []}
use Rattle.asl_json_data.specs.Data.{pairs, chain, depth, members_depth, items_depth}
use Rattle.asl_json.specs.View.{data_of, items_of, members_of}
use Rattle.asl_json.specs.Keys.{Knows}
use Rattle.asl_def_schema.specs.private.Code.{shape_seen}
use Rattle.asl_def_judge.specs.private.Spots.{spot_of}
use Rattle.asl_def_schema.specs.Claims.{item_claims, member_claims}
use Rattle.asl_def_judge.proofs.Walking.{Goes}
use Rattle.asl_def_judge.proofs.walk.+walk.Given as goal

abbrev pub decreases-check : goal.decreases-check
decreases-check l = 6 * depth (data_of l.value.now)

abbrev pub decreases-check_items : goal.decreases-check_items
decreases-check_items l = 6 * items_depth (chain l.items.now) + 5

abbrev pub decreases-check_object : goal.decreases-check_object
decreases-check_object l = 6 * members_depth (pairs l.members.now) + 5

abbrev pub decreases-check_inside : goal.decreases-check_inside
decreases-check_inside l = 6 * members_depth (pairs l.members.now) + 4

abbrev pub decreases-check_members : goal.decreases-check_members
decreases-check_members l = 6 * members_depth (pairs l.members.now) + 3

abbrev pub decreases-check_member : goal.decreases-check_member
decreases-check_member l = 6 * depth (data_of l.member.now.value) + 1

abbrev pub invariant-check_items-loop-i : goal.invariant-check_items-loop-i
invariant-check_items-loop-i l = let p = spot_of l.spot in Goes (item_claims p l.sort l.i (chain (items_of (drop l.i l.values)))) (item_claims p l.sort 0 (chain (items_of l.values))) l.best

abbrev pub invariant-check_members-loop-i : goal.invariant-check_members-loop-i
invariant-check_members-loop-i l = let p = spot_of l.spot in let sh = shape_seen l.shape in Goes (member_claims p sh (members_of (take l.i l.pairs)) l.i (pairs (members_of (drop l.i l.pairs)))) (member_claims p sh [] 0 (pairs (members_of l.pairs))) l.best × Knows l.keys (members_of (take l.i l.pairs))
