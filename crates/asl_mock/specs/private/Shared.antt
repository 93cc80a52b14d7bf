-- What the owners of a case share.
use Rattle.std.specs.Prelude.{List, [], Option, Some, None, String}
use Rattle.std.specs.Arc.{arc_value}
use Rattle.std.specs.declared.sync.Arc.{Arc}
use Rattle.indexmap.specs.IndexMap.{IndexMap}
use Rattle.asl_mock.specs.Answers.{Response}
use Rattle.asl_mock.specs.Tables.{Named, named}

abbrev pub shared_states : {X Y Z : Type 0} → Option (Arc (IndexMap (String X) Response Y) Z)
    → List (Named Response)
shared_states None = []
shared_states (Some a) = named (arc_value a).entries

abbrev pub listed : {X Y : Type 0} → Option (IndexMap (String X) Response Y) → List (Named Response)
listed None = []
listed (Some m) = named m.entries
