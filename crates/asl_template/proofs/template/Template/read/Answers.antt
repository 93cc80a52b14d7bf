use Rattle.std.proofs.Common.{subst}
use Rattle.asl_json.specs.View.{data_of}
use Rattle.asl_template.specs.Faults.{claims}
use Rattle.asl_template.specs.private.Broken.{Reads}
use Rattle.asl_template.specs.private.View.{part_data}
use Rattle.asl_template.proofs.Answered.{answered, refused}
use Rattle.asl_template.proofs.template.Template.read.Goals as goal

pub returns-in-Ok-Err-clause-fault : goal.returns-in-Ok-Err-clause-fault
returns-in-Ok-Err-clause-fault c =
    let d = data_of c.args.value.now in
    answered d c.in-Ok-Err.fault c.told.result (subst (Reads part_data d (claims d)) c.in-Ok-Err.field-0-is c.in-Ok-Err.ensures) c.told.ensures

pub returns-in-Ok-Err-clause-only : goal.returns-in-Ok-Err-clause-only
returns-in-Ok-Err-clause-only c = λ t.
    let d = data_of c.args.value.now in
    absurd (refused d c.in-Ok-Err.fault (subst (Reads part_data d (claims d)) c.in-Ok-Err.field-0-is c.in-Ok-Err.ensures) t)
