use Rattle.asl_template.proofs.Filled.{path_name, call_name}
use Rattle.asl_template.proofs.part.Field.name.Goals as goal

pub returns-in-Path : goal.returns-in-Path
returns-in-Path c = path_name c.args.self.now c.in-Path.name c.in-Path.field-1 c.in-Path.is

pub returns-in-Call : goal.returns-in-Call
returns-in-Call c = call_name c.args.self.now c.in-Call.name c.in-Call.field-1 c.in-Call.is
