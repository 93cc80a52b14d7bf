use Rattle.asl_run_state.specs.Bare.{bare}
use Rattle.asl_exec.specs.Probes.{setup_of, world_of}
use Rattle.asl_explore.proofs.Noted.{seen-by-parts}
use Rattle.asl_explore.proofs.sights.see.Goals as goal

pub returns-clause-seen : goal.returns-clause-seen
returns-clause-seen c ws t =
    let o = c.args.orders in
    seen-by-parts o (setup_of c.args.probe.now) (setup_of c.enter.new.probe) ws (bare c.args.world.now) (world_of c.enter.new.probe) c.bound_of-bound.result
    c.in-Some.turns.items c.deref.result.now c.deref-2.result.now c.deref-4.result.now c.in_ok-looks.looks.items c.deref-3.result.now c.deref-5.result.now
    c.args.sights.now.items c.note.new.sights.items c.ask_all.new.sights.items
    c.enter.ensures.setup (c.in_ok-enter.ensures.world c.if-not-branch.false) (rw c.in-Some.is at c.in_ok-turns.ensures.turns)
    c.deref.ensures.value c.deref-2.ensures.value c.deref-4.ensures.value c.deref-3.ensures.value c.deref-5.ensures.value
    c.bound_of-bound.ensures (c.in_ok-looks.ensures.looks o) c.note.ensures.many c.ask_all.ensures.many c.note.ensures.each
    (λ et looks. c.in_ok-is_noted.ensures.each o et looks t)
