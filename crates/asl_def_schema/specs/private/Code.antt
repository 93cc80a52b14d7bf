-- The table of members and a fault as the code has them.
use Rattle.std.specs.Prelude.{List, ◌++◌, map, reverse}
use Rattle.asl_def_schema.specs.declared.fault.FaultKind.{FaultKind}
use Rattle.asl_def_schema.specs.declared.fault.Step.{Step}
use Rattle.asl_def_schema.specs.declared.fault.Fault.TheInside.{Inside}
use Rattle.asl_def_schema.specs.declared.rows.Row.{Row as CodeRow}
use Rattle.asl_def_schema.specs.declared.rows.Row.TheVariants as code
use Rattle.asl_def_schema.specs.declared.rows.Group.{Group as CodeGroup}
use Rattle.asl_def_schema.specs.declared.rows.Shape.{Shape as CodeShape}
use Rattle.asl_def_schema.specs.Members.{Row, required, optional, beside, Group, Shape}

abbrev pub row_of : CodeRow → Row
row_of (code.Required k s) = required k.now s
row_of (code.Optional k s) = optional k.now s
row_of (code.Beside ls k s) = beside (map (λ l. l.now) ls.now) k.now s

abbrev pub rows_of : List CodeRow → List Row
rows_of rs = map row_of rs

abbrev pub group_of : CodeGroup → Group
group_of g =
    record { names = map (λ l. l.now) g.names.now ++ map (λ l. l.now) g.more.now; exact = g.exact }

abbrev pub groups_of : List CodeGroup → List Group
groups_of gs = map group_of gs

abbrev pub shape_seen : CodeShape → Shape
shape_seen s =
    record { rows = rows_of s.rows.now; others = s.others; groups = groups_of s.groups.now }

abbrev pub seen : Inside → FaultKind × List Step
seen a = (a.kind, reverse a.steps.items)
