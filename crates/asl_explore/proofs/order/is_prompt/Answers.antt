use Rattle.std.proofs.Common.{◌≡◌, ◌∙◌, ap, sym, subst, false}
use Rattle.asl_run_state.specs.Bare.{earliest}
use Rattle.asl_run_state.specs.Refusals.{is_full}
use Rattle.asl_run_state.specs.World.{World}
use Rattle.asl_exec.specs.Probes.{setup_of, world_of}
use Rattle.asl_explore.proofs.Prompting.{prompt-is}
use Rattle.asl_explore.proofs.order.is_prompt.Goals as goal

pub returns-in-Some-soonest : goal.returns-in-Some-soonest
returns-in-Some-soonest c t =
    prompt-is (setup_of c.args.probe.now) (world_of c.args.probe.now) c.args.place.now c.in-Some.moment c.in-Some-soonest.least
    (subst (λ (w : World). is_full w ≡ false) c.world.ensures (sym c.is_full.ensures ∙ c.if-is_full.false)) c.in-Some.ensures.some
    (c.in-Some-soonest.ensures.least (c.deref.ensures.value ∙ (rw c.in-Some-2.is at c.in_ok-turns.ensures.turns) ∙ ap (λ (w : World). earliest w.last w.branches) c.world-2.ensures))
    (c.is_by.ensures t)
