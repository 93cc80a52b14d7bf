use Rattle.asl_def.proofs.Walks.{names_differ}
use Rattle.asl_def.proofs.table.Table.names_differ.Goals as goal

pub returns : goal.returns
returns c = rw (← c.self.view_is) (names_differ c.self.inside.states.entries c.into_iter-states.ensures.into_iter_gives.4)
