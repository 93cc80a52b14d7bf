use Rattle.std.proofs.Common.{◌≡◌, take}
use Rattle.std.specs.Prelude.{map}
use Rattle.asl_json.specs.View.{items_of}
use Rattle.asl_def_schema.specs.declared.sort.Sort.TheVariants.{Retrier}
use Rattle.asl_def_schema.specs.Canon.{canon}
use Rattle.asl_def_fields.specs.Shown.{retrier_objects}
use Rattle.asl_def_fields.proofs.retry.Retriers.read.Given as goal

abbrev pub invariant-loop-value : goal.invariant-loop-value
invariant-loop-value l = retrier_objects l.retriers.items ≡ map (canon Retrier) (items_of (take l.value-index l.value-items))
