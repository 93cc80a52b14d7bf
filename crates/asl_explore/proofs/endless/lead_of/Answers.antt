use Rattle.std.proofs.Common.{◌≡◌, ◌∙◌, ap, sym, subst, get_or}
use Rattle.asl_run_state.specs.Bare.{bare}
use Rattle.asl_run_state.specs.World.{World, is_over}
use Rattle.asl_run_state.proofs.Picks.{over-is}
use Rattle.asl_exec.specs.Steps.{step}
use Rattle.asl_exec.specs.Probes.{setup_of, world_of}
use Rattle.asl_branch_numbers.specs.Numbers.{IsBehind}
use Rattle.asl_explore.specs.Searches.{StandsAt, worlds_of}
use Rattle.asl_explore.proofs.Behind.{behind-reply}
use Rattle.asl_explore.proofs.Reaching.{leads-end, leads-on}
use Rattle.asl_explore.proofs.endless.lead_of.Goals as goal

pub returns-then-not-is_running-clause-leads : goal.returns-then-not-is_running-clause-leads
returns-then-not-is_running-clause-leads c least =
    leads-end c.args.orders (setup_of c.args.probe.now) (setup_of c.enter.new.probe) c.args.world.now (world_of c.enter.new.probe) (world_of c.reply.new.self) c.args.place.now c.args.bound.now c.in-Some.moment
    c.enter.ensures.setup (c.in_ok-enter.ensures.world c.if-not-branch.false) c.in-Some.ensures.some (c.is_soon.ensures c.if-not-is_soon.false) (rw c.in_ok-try_clone.ensures at c.in_ok-_reply.ensures.world) least
    (ap (λ (x : World). is_over x.outcome) (sym c.world.ensures) ∙ over-is c.world.result.now c.is_running.result c.is_running.ensures c.if-not-is_running.true)

pub returns-in-Some-2-clause-leads : goal.returns-in-Some-2-clause-leads
returns-in-Some-2-clause-leads c least =
    let s = setup_of c.enter.new.probe in
    let ws = worlds_of c.args.met.now.nodes.items in
    let v = world_of c.enter.new.probe in
    let u = world_of c.reply.new.self in
    let entered = c.in_ok-enter.ensures.world c.if-not-branch.false in
    let stepped : u ≡ step s v c.args.place.now c.in-Some.moment = rw c.in_ok-try_clone.ensures at c.in_ok-_reply.ensures.world in
    let behind : (d : World) → IsBehind c.args.place.now (get_or ws c.args.number d) c.world-2.result.now = λ d.
    behind-reply s (get_or ws c.args.number d) v u c.world-2.result.now c.args.place.now c.in-Some.moment (entered ∙ sym (c.requires.is d)) stepped c.world-2.ensures in
    let stands : StandsAt ws c.in-Some-2.number (bare c.world-2.result.now) = (rw c.in-Some-2.is at c.in_ok-number.ensures) behind in
    leads-on c.args.orders (setup_of c.args.probe.now) s c.args.world.now v u c.args.place.now c.args.bound.now c.in-Some.moment
    c.enter.ensures.setup entered c.in-Some.ensures.some (c.is_soon.ensures c.if-not-is_soon.false) stepped least
    ws c.in-Some-2.number (subst (λ (x : World). StandsAt ws c.in-Some-2.number (bare x)) c.world-2.ensures stands)
