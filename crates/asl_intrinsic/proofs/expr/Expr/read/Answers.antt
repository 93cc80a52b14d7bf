use Rattle.asl_intrinsic.proofs.Answering.{kept_call, tells_misfit, only_memory}
use Rattle.asl_intrinsic.proofs.expr.Expr.read.Goals as goal

pub returns-in-Ok-Err-clause-only : goal.returns-in-Ok-Err-clause-only
returns-in-Ok-Err-clause-only c = only_memory c.args.text.now c.told.result (tells_misfit c.args.text.now c.in-Ok-Err.wrong c.in-Ok-Err.field-0 c.told.result c.in-Ok-Err.field-0-is c.in-Ok-Err.ensures c.told.ensures)

pub returns-in-Ok-Err-clause-fault : goal.returns-in-Ok-Err-clause-fault
returns-in-Ok-Err-clause-fault c = tells_misfit c.args.text.now c.in-Ok-Err.wrong c.in-Ok-Err.field-0 c.told.result c.in-Ok-Err.field-0-is c.in-Ok-Err.ensures c.told.ensures

pub returns-in-Err-clause-only : goal.returns-in-Err-clause-only
returns-in-Err-clause-only c = only_memory c.args.text.now c.at_place.result c.at_place.ensures

pub returns-in-Ok-clause-found : goal.returns-in-Ok-clause-found
returns-in-Ok-clause-found c = kept_call c.args.text.now c.in-Ok-Ok.call c.in-Ok-Ok.field-0 c.in-Ok-Ok.field-0-is c.in-Ok-Ok.ensures
