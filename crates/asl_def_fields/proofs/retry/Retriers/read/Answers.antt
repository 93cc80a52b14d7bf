use Rattle.std.proofs.Common.{ap, refl}
use Rattle.asl_json.specs.View.{data_of}
use Rattle.asl_def_schema.specs.declared.sort.Sort.TheVariants.{Retriers}
use Rattle.asl_def_fields.proofs.Items.{clean_item, retriers_show}
use Rattle.asl_def_fields.proofs.retry.Retriers.read.Goals as goal

pub read-requires : goal.read-requires
read-requires c = clean_item Retriers (data_of c.args.value.now) c.in-List.values c.values-value-items.result.now c.loop-value.value-index c.value-item.result refl c.requires (ap data_of c.in-List.is) c.values-value-items.ensures c.loop-value-test.true c.value-item.is

pub returns : goal.returns
returns c = retriers_show (data_of c.args.value.now) c.in-List.values c.values-value-items.result.now c.loop-value.value-index c.loop-value.retriers.items (ap data_of c.in-List.is) c.values-value-items.ensures c.loop-value-test.false c.loop-value.invariant
