use Rattle.asl_trace_data.proofs.state.stages_of.Goals as goal

pub returns-in-Pass-clause-stages : goal.returns-in-Pass-clause-stages
returns-in-Pass-clause-stages c = rw c.in-Pass.is c.of_pass.ensures.stages

pub returns-in-Map-clause-stages : goal.returns-in-Map-clause-stages
returns-in-Map-clause-stages c = rw c.in-Map.is c.of_map.ensures.stages
