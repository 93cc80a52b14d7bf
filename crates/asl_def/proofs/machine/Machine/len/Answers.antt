use Rattle.std.proofs.Common.{◌∙◌}
use Rattle.asl_def.proofs.Wholes.{states_counted}
use Rattle.asl_def.proofs.machine.Machine.len.Goals as goal

pub returns : goal.returns
returns c = rw (← c.parts.ensures.shown) (c.len.ensures ∙ states_counted c.parts.result.now.table c.parts.result.now.heading c.parts.result.now.root c.parts.ensures.whole)
