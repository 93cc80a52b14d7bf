-- The states of the outermost machine.
use Rattle.std.specs.Prelude.{List, codes}
use Rattle.asl_json_data.specs.Data.{Data}
use Rattle.asl_json.specs.Access.{member_list_at}
use Rattle.asl_def_schema.specs.Canon.{Named}

-- names and objects, in document order
abbrev pub own_states_in : Data → List Named
own_states_in d = member_list_at (codes "States") d
