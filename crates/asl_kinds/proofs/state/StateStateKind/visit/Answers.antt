use Rattle.asl_kinds.proofs.state.StateStateKind.visit.Goals as goal

pub returns-in-Pass : goal.returns-in-Pass
returns-in-Pass c = rw c.in-Pass.is c.visit.ensures

pub returns-in-Map-clause-effect : goal.returns-in-Map-clause-effect
returns-in-Map-clause-effect c = rw c.in-Map.is c.visit-in-Map.ensures.effect
