use Rattle.asl_def_fields.proofs.Items.{each_item}
use Rattle.asl_def_fields.proofs.list.read_all.Goals as goal

pub read-requires : goal.read-requires
read-requires g c = each_item g.T.Compile.Fits c.args.values.now c.loop-value.value-index c.value-item.result c.requires c.loop-value-test.true c.value-item.is
