use Rattle.std.proofs.Common.{◌≡◌, ◌+◌, ◌*◌, take}
use Rattle.asl_json_data.specs.Data.{chain, pairs, depth, items_depth, members_depth}
use Rattle.asl_json.specs.View.{items_of}
use Rattle.asl_template.specs.private.View.{part_data, parts_data, field_data, fields_data}
use Rattle.asl_template.proofs.rebuild.+rebuild.Given as goal

abbrev pub decreases-rebuild : goal.decreases-rebuild
decreases-rebuild l = 4 * depth (part_data l.part.now)

abbrev pub decreases-rebuild_parts : goal.decreases-rebuild_parts
decreases-rebuild_parts l = 4 * items_depth (chain l.parts.now) + 3

abbrev pub decreases-rebuild_fields : goal.decreases-rebuild_fields
decreases-rebuild_fields l = 4 * members_depth (pairs l.fields.now) + 3

abbrev pub decreases-rebuild_field : goal.decreases-rebuild_field
decreases-rebuild_field l = 4 * depth (field_data l.field.now).1 + 1

abbrev pub invariant-rebuild_parts-loop-part : goal.invariant-rebuild_parts-loop-part
invariant-rebuild_parts-loop-part l = items_of l.values.items ≡ parts_data (take l.part-index l.part-items)

abbrev pub invariant-rebuild_fields-loop-field : goal.invariant-rebuild_fields-loop-field
invariant-rebuild_fields-loop-field l = l.members ≡ fields_data (take l.field-index l.field-items)
