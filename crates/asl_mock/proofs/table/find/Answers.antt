use Rattle.std.proofs.Common.{◌∙◌}
use Rattle.asl_mock.proofs.Names.{looked_up}
use Rattle.asl_mock.proofs.table.find.Goals as goal

pub returns : goal.returns
returns g c = c.get.ensures.value ∙ looked_up c.args.name.now c.args.values.now.entries
