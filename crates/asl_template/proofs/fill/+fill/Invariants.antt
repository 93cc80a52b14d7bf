use Rattle.std.proofs.Common.{◌≡◌, ◌+◌, ◌*◌, take}
use Rattle.asl_json_data.specs.Data.{chain, pairs, depth, items_depth, members_depth}
use Rattle.asl_json.specs.View.{data_of, items_of}
use Rattle.asl_template.specs.private.View.{part_data, parts_data, field_data, fields_data}
use Rattle.asl_template.specs.Names.{named}
use Rattle.asl_template.specs.Filling.{fill_items, fill_members}
use Rattle.asl_template.proofs.Filled.{items_behind, members_behind, rest_of, rest_of_fields}
use Rattle.asl_template.proofs.Apart.{keys}
use Rattle.asl_template.proofs.fill.+fill.Given as goal

abbrev pub invariant-fill_parts-loop-part : goal.invariant-fill_parts-loop-part
invariant-fill_parts-loop-part l = items_behind (items_of l.values.items) (rest_of l.part-items l.part-index (data_of l.input) (data_of l.context)) ≡ fill_items (chain (parts_data l.part-items)) (data_of l.input) (data_of l.context)

abbrev pub invariant-fill_fields-loop-field : goal.invariant-fill_fields-loop-field
invariant-fill_fields-loop-field l = (members_behind l.members (rest_of_fields l.field-items l.field-index (data_of l.input) (data_of l.context)) ≡ fill_members (pairs (fields_data l.field-items)) (data_of l.input) (data_of l.context)) × (keys l.members ≡ keys (named (fields_data (take l.field-index l.field-items))))

abbrev pub decreases-fill : goal.decreases-fill
decreases-fill l = 4 * depth (part_data l.part.now)

abbrev pub decreases-fill_parts : goal.decreases-fill_parts
decreases-fill_parts l = 4 * items_depth (chain l.parts.now) + 3

abbrev pub decreases-fill_fields : goal.decreases-fill_fields
decreases-fill_fields l = 4 * members_depth (pairs l.fields.now) + 3

abbrev pub decreases-fill_field : goal.decreases-fill_field
decreases-fill_field l = 4 * depth (field_data l.field.now).1 + 1
