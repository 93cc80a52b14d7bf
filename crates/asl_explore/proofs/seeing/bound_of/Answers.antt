use Rattle.std.proofs.Common.{sym, subst}
use Rattle.asl_exec.specs.Probes.{setup_of, world_of}
use Rattle.asl_explore.specs.declared.orders.Orders.{Orders}
use Rattle.asl_explore.specs.private.Seeing.{IsBoundOf}
use Rattle.asl_explore.proofs.Sighting.{prompt-bound}
use Rattle.asl_explore.proofs.seeing.bound_of.Goals as goal

pub returns-in-Prompt : goal.returns-in-Prompt
returns-in-Prompt c et =
    let s = setup_of c.args.probe.now in
    let w = world_of c.args.probe.now in
    subst (λ (o : Orders). IsBoundOf o s w c.soonest.result) (sym c.in-Prompt.is) (prompt-bound s w c.soonest.result c.soonest.ensures.open (c.soonest.ensures.least et) (c.soonest.ensures.none et))
