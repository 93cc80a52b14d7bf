use Rattle.std.proofs.Common.{ap, refl}
use Rattle.asl_json.specs.View.{data_of}
use Rattle.asl_def_schema.specs.declared.sort.Sort.TheVariants.{Catchers}
use Rattle.asl_def_fields.proofs.Items.{clean_item}
use Rattle.asl_def_shared.specs.Parts.{catcher_objects}
use Rattle.asl_def_shared.proofs.Catching.{list_shows}
use Rattle.asl_def_shared.proofs.catcher.Catchers.read.Goals as goal

pub read-requires : goal.read-requires
read-requires c = clean_item Catchers (data_of c.args.value.now) c.in-List.values c.values-value-items.result.now c.loop-value.value-index c.value-item.result refl c.requires (ap data_of c.in-List.is) c.values-value-items.ensures c.loop-value-test.true c.value-item.is

pub returns : goal.returns
returns c = list_shows Catchers (data_of c.args.value.now) c.in-List.values c.values-value-items.result.now c.loop-value.value-index (catcher_objects c.loop-value.catchers.items) (λ a b. refl) (ap data_of c.in-List.is) c.values-value-items.ensures c.loop-value-test.false c.loop-value.invariant
