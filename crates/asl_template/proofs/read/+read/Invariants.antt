use Rattle.std.proofs.Common.{◌+◌, ◌*◌, take, []}
use Rattle.std.specs.Prelude.{map, IfOk}
use Rattle.asl_json_data.specs.Data.{chain, pairs, depth, items_depth, members_depth}
use Rattle.asl_json.specs.View.{data_of, items_of, members_of}
use Rattle.asl_template.specs.private.View.{part_data, field_data, AllFit}
use Rattle.asl_template.specs.Faults.{item_claims, member_claims}
use Rattle.asl_template.specs.private.Broken.{Reads, listed}
use Rattle.asl_json.specs.Keys.{Knows}
use Rattle.asl_template.proofs.read.+read.Given as goal

abbrev pub decreases-part : goal.decreases-part
decreases-part l = 4 * depth (data_of l.value.now)

abbrev pub decreases-parts : goal.decreases-parts
decreases-parts l = 4 * items_depth (chain l.items.now) + 3

abbrev pub decreases-fields : goal.decreases-fields
decreases-fields l = 4 * members_depth (pairs l.members.now) + 3

abbrev pub decreases-field : goal.decreases-field
decreases-field l = 4 * depth (data_of l.member.now.value) + 1

abbrev pub invariant-parts-loop-i : goal.invariant-parts-loop-i
invariant-parts-loop-i l =
    let ds = items_of (take l.i l.values) in
    Reads (map part_data) ds (item_claims 0 (chain ds)) (listed l.read)

abbrev pub invariant-fields-loop-i : goal.invariant-fields-loop-i
invariant-fields-loop-i l =
    let ms = members_of (take l.i l.members) in
    Reads (map field_data) ms (member_claims [] (pairs ms)) (listed l.read) × IfOk (listed l.read) AllFit × Knows l.keys ms
