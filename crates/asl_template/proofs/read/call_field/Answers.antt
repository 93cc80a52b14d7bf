use Rattle.asl_template.proofs.Single.{call_wrong}
use Rattle.asl_template.proofs.read.call_field.Goals as goal

pub returns-in_default : goal.returns-in_default
returns-in_default c = record { reads = call_wrong c.args.text.now c.in-Err.fault c.here.result c.requires c.in-Err.ensures.only c.in-Err.ensures.fault c.in_default.not-OutOfMemory c.here.ensures; fits = tt }
