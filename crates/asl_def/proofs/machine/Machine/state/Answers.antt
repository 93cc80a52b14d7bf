use Rattle.asl_def.proofs.Wholes.{state_named}
use Rattle.asl_def.proofs.machine.Machine.state.Goals as goal

pub returns : goal.returns
returns c = rw (← c.parts.ensures.shown) (state_named (λ s. s.now) c.state.result c.args.name.now c.parts.result.now.table c.parts.result.now.heading c.parts.result.now.root c.parts.ensures.whole c.state.ensures)
