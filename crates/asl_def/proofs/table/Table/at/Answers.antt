use Rattle.asl_def.proofs.Walks.{at_some, at_none, at_within}
use Rattle.asl_def.proofs.table.Table.at.Goals as goal

pub returns-clause-some : goal.returns-clause-some
returns-clause-some c = rw (← c.self.view_is) (at_some _ c.get_index.result c.self.inside.states.entries c.args.number c.get_index.ensures.entry c.self.invariant)

pub returns-clause-none : goal.returns-clause-none
returns-clause-none c = rw (← c.self.view_is) (at_none _ c.get_index.result c.self.inside.states.entries c.args.number c.get_index.ensures.entry)

pub returns-clause-within : goal.returns-clause-within
returns-clause-within c = at_within _ c.get_index.result c.self.inside.states.entries c.args.number c.get_index.ensures.entry c.self.invariant
