use Rattle.std.proofs.Common.{rules, ◌≡◌, ◌<◌, ◌∙◌, ap, sym, subst, false, length}
use Rattle.asl_run_state.specs.Bare.{bare}
use Rattle.asl_run_state.specs.World.{World, is_over}
use Rattle.asl_run_state.proofs.Picks.{running-is}
use Rattle.asl_exec.specs.Probes.{setup_of, world_of}
use Rattle.asl_explore.proofs.Concluding.{lasso-is}
use Rattle.asl_explore.proofs.lasso.is_lasso.Goals as goal

pub returns-clause-lasso : goal.returns-clause-lasso
returns-clause-lasso c t =
    let some : 0 < length c.args.lasso.now.round.items = search rules in
    lasso-is c.args.orders (setup_of c.args.probe.now) (setup_of c.enter.new.probe) (setup_of c.walk.new.probe) c.args.lasso.now (world_of c.enter.new.probe) (world_of c.walk.new.probe) (world_of c.walk-2.new.probe) c.deref.result.now c.deref-2.result.now
    c.enter.ensures.setup (c.walk.ensures.setup ∙ c.enter.ensures.setup) (c.in_ok-enter.ensures.world c.if-not-branch.false ∙ ap bare c.in_ok-opening.ensures) c.deref.ensures.value
    (c.in_ok-walk.ensures.taken c.if-not-branch-2.false) (c.in_ok-walk.ensures.world c.if-not-branch-2.false)
    (subst (λ (w : World). is_over w.outcome ≡ false) c.world.ensures (running-is c.world.result.now c.is_running.result c.is_running.ensures c.if-not-is_running.false)) some c.deref-2.ensures.value
    (c.in_ok-walk-2.ensures.taken c.if-not-branch-3.false) (c.in_ok-walk-2.ensures.world c.if-not-branch-3.false)
    (ap bare (sym c.world-3.ensures) ∙ c.is_alike.ensures t ∙ ap bare (rw c.in-Some.is at c.in_ok-turning.ensures) ∙ ap bare c.world-2.ensures)
