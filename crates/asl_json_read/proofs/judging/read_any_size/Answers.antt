use Rattle.std.proofs.Common.{Some, ap}
use Rattle.asl_json.specs.View.{data_of}
use Rattle.asl_json_scan.proofs.Documents.{reads_of}
use Rattle.asl_json_read.proofs.Faulting.{same_value, fails_none}
use Rattle.asl_json_read.proofs.judging.read_any_size.Goals as goal

pub returns-in-Ok-clause-found : goal.returns-in-Ok-clause-found
returns-in-Ok-clause-found c = (c.in_default.ensures.cases.1, reads_of c.args.bytes.now (data_of c.in-Ok.value) c.in-Ok.ensures)

pub returns-in-Ok-clause-only : goal.returns-in-Ok-clause-only
returns-in-Ok-clause-only c = λ v h. ap Some (same_value c.args.bytes.now (data_of c.in-Ok.value) v c.in-Ok.ensures h.1)

pub returns-in-Err-Fault-clause-only : goal.returns-in-Err-Fault-clause-only
returns-in-Err-Fault-clause-only c = λ v h. absurd (fails_none c.args.bytes.now c.in-Err-Fault.field-0 c.in-Err-Fault.field-0-0 v c.in-Err-Fault.field-0-is c.in-Err-Fault.ensures h.1)
