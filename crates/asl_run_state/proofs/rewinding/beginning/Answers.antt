use Rattle.std.proofs.Common.{◌≡◌, ◌∙◌, ◌++◌, ◌∷◌, [], take, ap, sym, refl, arith}
use Rattle.std.proofs.lemmas.List.{take_more}
use Rattle.asl_history.specs.declared.event.Event.{Event}
use Rattle.asl_history.specs.Events.{previous_id, IsNext, event_after}
use Rattle.asl_run_state.proofs.Copying.{next-at, same-event, history-take}
use Rattle.asl_run_state.proofs.rewinding.beginning.Goals as goal

pub append_linked-requires-clause-link : goal.append_linked-requires-clause-link
append_linked-requires-clause-link c =
    let e = c.event-item.result in
    let items = take c.args.count c.events.result.now in
    let next = next-at items c.loop-event.event-index e (history-take c.args.count c.events.result.now c.events.ensures.linked) c.loop-event-test.true c.event-item.is in
    rw (c.in_ok-place.ensures, c.loop-event.invariant.copied) next.link

pub loop-event-preserved : goal.loop-event-preserved
loop-event-preserved c =
    let e = c.event-item.result in
    let items = take c.args.count c.events.result.now in
    let next = next-at items c.loop-event.event-index e (history-take c.args.count c.events.result.now c.events.ensures.linked) c.loop-event-test.true c.event-item.is in
    let before = take c.loop-event.event-index items in
    let copied : c.append_linked.new.self.events ≡ before ++ event_after before e.at e.kind e.place e.name e.body ∷ [] = c.append_linked.ensures.events ∙ rw (c.in_ok-place.ensures, c.in_ok-name.ensures, c.in_ok-body.ensures, c.loop-event.invariant.copied) refl in
    record {
      copied = copied ∙ ap (λ (x : Event). before ++ x ∷ []) (same-event before e next) ∙ ap (λ (x : Event). before ++ x ∷ []) c.event-item.is ∙ sym (take_more items c.loop-event.event-index e c.loop-event-test.true);
      room = omega (arith, c.loop-event.invariant.room, c.append_linked.ensures.spare);
    }
