use Rattle.asl_template.proofs.Single.{path_wrong}
use Rattle.asl_template.proofs.read.path_field.Goals as goal

pub returns-in-Err-PathProfile-clause-reads : goal.returns-in-Err-PathProfile-clause-reads
returns-in-Err-PathProfile-clause-reads c = path_wrong c.args.text.now c.in-Err-PathProfile.at c.in-Err-PathProfile.field-0 c.here.result c.requires c.in-Err-PathProfile.ensures.only c.in-Err-PathProfile.ensures.fault c.in-Err-PathProfile.field-0-is c.here.ensures
