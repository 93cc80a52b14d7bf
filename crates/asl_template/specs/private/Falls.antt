-- What a list or an object of a template holds is smaller than itself.
use Rattle.std.specs.Prelude.{◌≤◌, max, List, [], ◌∷◌}
use Rattle.std.proofs.Common.{arith}
use denote.Param.Weighed.{most}
use Rattle.asl_json_data.specs.Data.{depth, items_size, members_size}
use Rattle.asl_template.specs.private.View.{part_data, parts_data, field_data, fields_data}
use Rattle.asl_template.specs.declared.part.Part.{Part}
use Rattle.asl_template.specs.declared.part.Part.TheVariants.{Null, Bool as Truth, Num, Text, List as PartList, Dict}
use Rattle.asl_template.specs.declared.part.Field.{Field}
use Rattle.asl_template.specs.declared.part.Field.TheVariants.{Kept, Path, Call}
use Rattle.asl_template.specs.declared.part.Fields.TheDeep.{deep-Part, deep-Field}

deep_part : (p : Part) → deep-Part p ≤ depth (part_data p)
deep_part Null = omega arith
deep_part (Truth b) = omega arith
deep_part (Num s) = omega arith
deep_part (Text s) = omega arith
deep_part (PartList ds) = omega arith
deep_part (Dict ms) = omega arith

deep_field : (f : Field) → deep-Field f ≤ depth (field_data f).1
deep_field (Kept n p) = omega (arith, deep_part p)
deep_field (Path n t) = omega arith
deep_field (Call n t) = omega arith

deep_parts : (ps : List Part) → most deep-Part ps ≤ items_size (parts_data ps)
deep_parts [] = omega arith
deep_parts (p ∷ ps) = omega (arith, deep_part p, deep_parts ps)

deep_fields : (fs : List Field) → most deep-Field fs ≤ members_size (fields_data fs)
deep_fields [] = omega arith
deep_fields (f ∷ fs) = omega (arith, deep_field f, deep_fields fs)

pub parts_fall : (ps : List Part) → max (most deep-Part ps) 0 ≤ items_size (parts_data ps)
parts_fall ps = omega (arith, deep_parts ps)

pub fields_fall : (fs : List Field) → max (most deep-Field fs) 0 ≤ members_size (fields_data fs)
fields_fall fs = omega (arith, deep_fields fs)
