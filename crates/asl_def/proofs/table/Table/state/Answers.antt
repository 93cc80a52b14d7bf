use Rattle.asl_def.proofs.Tables.{looked_up}
use Rattle.asl_def.proofs.table.Table.state.Goals as goal

pub returns : goal.returns
returns c = rw (← c.self.view_is) (looked_up (λ s. s.now) c.get.result c.args.name.now c.self.inside.states.entries c.self.invariant c.get.ensures.value)
