use Rattle.std.proofs.Common.{◌≡◌, ◌+◌, ◌*◌, drop}
use Rattle.asl_json_data.specs.Data.{chain, pairs, depth, items_depth, members_depth}
use Rattle.asl_json.specs.Same.{equal_items, equal_members}
use Rattle.asl_template.specs.private.View.{part_data, parts_data, field_data, fields_data}
use Rattle.asl_template.proofs.equal.+equal.Given as goal

abbrev pub decreases-equals : goal.decreases-equals
decreases-equals l = 4 * depth (part_data l.a.now)

abbrev pub decreases-equals_parts : goal.decreases-equals_parts
decreases-equals_parts l = 4 * items_depth (chain l.a.now) + 3

abbrev pub decreases-equals_fields : goal.decreases-equals_fields
decreases-equals_fields l = 4 * members_depth (pairs l.a.now) + 3

abbrev pub decreases-equals_field : goal.decreases-equals_field
decreases-equals_field l = 4 * depth (field_data l.a.now).1 + 1

abbrev pub invariant-equals_parts-loop-i : goal.invariant-equals_parts-loop-i
invariant-equals_parts-loop-i l = equal_items (chain (parts_data (drop l.i l.a-inside.parts.items))) (chain (parts_data (drop l.i l.b-inside.parts.items))) ≡ equal_items (chain (parts_data l.a-inside.parts.items)) (chain (parts_data l.b-inside.parts.items))

abbrev pub invariant-equals_fields-loop-i : goal.invariant-equals_fields-loop-i
invariant-equals_fields-loop-i l = equal_members (pairs (fields_data (drop l.i l.a-inside.fields.items))) (pairs (fields_data (drop l.i l.b-inside.fields.items))) ≡ equal_members (pairs (fields_data l.a-inside.fields.items)) (pairs (fields_data l.b-inside.fields.items))
