use Rattle.std.proofs.Common.{arith, refl, sym, ◌∙◌}
use Rattle.asl_history.specs.Events.{event_after}
use Rattle.asl_run_state.proofs.Telling.{one-more, one-history, one-last}
use Rattle.asl_run_state.proofs.world.tell.Goals as goal

pub loop-at-preserved : goal.loop-at-preserved
loop-at-preserved c =
    let es = c.loop-at.history.events in
    let e = event_after es c.args.moment c.in-Some.draft.kind c.in-Some.at c.in-Some.draft.name c.in-Some.draft.body in
    let h = one-history es e c.loop-at.invariant.linked refl refl in
    let all = rw c.in-Some.ensures.steps.0 at c.loop-at.invariant.at in
    record {
      told = rw c.append_linked.ensures.events (rw c.in-Some.ensures.steps.0 at c.loop-at.invariant.told);
      room = omega (arith, c.in-Some.ensures.steps.1, c.loop-at.invariant.room, c.append_linked.ensures.spare);
      at = all.1;
      linked = rw c.append_linked.ensures.events h;
      link = c.len-previous.ensures ∙ rw c.append_linked.ensures.events (one-more es e ∙ sym (one-last c.args.place.now es e h all.0));
    }
