use Rattle.std.proofs.Common.{arith, []}
use Rattle.asl_def.proofs.Tables.{length-shown}
use Rattle.asl_def.proofs.table.Table.len.Goals as goal

pub returns : goal.returns
returns c = rw (← c.self.view_is) (omega (arith, c.len.ensures.len, length-shown [] c.self.inside.states.entries))
