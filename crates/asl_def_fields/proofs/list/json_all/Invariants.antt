use Rattle.std.proofs.Common.{◌≡◌, take}
use Rattle.std.specs.Prelude.{map}
use Rattle.asl_json.specs.View.{items_of}
use Rattle.asl_def_fields.proofs.list.json_all.Given as goal

abbrev pub invariant-loop-value : goal.invariant-loop-value
invariant-loop-value g l = items_of l.shown.items ≡ map g.T.Compiled.shown (take l.value-index l.values)
