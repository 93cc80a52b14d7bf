use Rattle.std.proofs.Common.{◌≡◌, take}
use Rattle.std.specs.Prelude.{map}
use Rattle.asl_json.specs.View.{items_of}
use Rattle.asl_def_schema.specs.declared.sort.Sort.TheVariants.{Catcher}
use Rattle.asl_def_schema.specs.Canon.{canon}
use Rattle.asl_def_shared.specs.Parts.{catcher_objects}
use Rattle.asl_def_shared.proofs.catcher.Catchers.read.Given as goal

abbrev pub invariant-loop-value : goal.invariant-loop-value
invariant-loop-value l = catcher_objects l.catchers.items ≡ map (canon Catcher) (items_of (take l.value-index l.value-items))
