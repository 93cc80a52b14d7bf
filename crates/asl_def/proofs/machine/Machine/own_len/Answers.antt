use Rattle.asl_def.proofs.Outermost.{own_counted}
use Rattle.asl_def.proofs.machine.Machine.own_len.Goals as goal

pub returns : goal.returns
returns c = rw (← c.parts.ensures.shown) (own_counted c.parts.result.now.table c.parts.result.now.heading c.parts.result.now.root c.parts.ensures.whole.within)
