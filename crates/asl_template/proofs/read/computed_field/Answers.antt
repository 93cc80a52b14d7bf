use Rattle.asl_template.proofs.Single.{text_wrong}
use Rattle.asl_template.proofs.read.computed_field.Goals as goal

pub returns-in_default : goal.returns-in_default
returns-in_default c = record { reads = text_wrong c.args.value.now c.here.result c.in_default.not-Text c.here.ensures; fits = tt }
