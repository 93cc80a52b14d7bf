use Rattle.std.proofs.Common.{◌∙◌, sym, ap, Bor}
use Rattle.std.specs.Prelude.{option_map}
use Rattle.asl_json.specs.View.{data_of}
use Rattle.asl_history.specs.declared.event.Event.{Event}
use Rattle.asl_exec.proofs.Leading.{step}
use Rattle.asl_exec.proofs.lacking.failed_task.Goals as goal

pub loop-preserved : goal.loop-preserved
loop-preserved c =
    step (data_of c.args.output.now) c.loop.id c.args.id c.args.events.now c.loop.counter c.in_ok-event.event.now c.loop-test.true
    (sym c.event_of.ensures ∙ ap (option_map (λ (e : Bor Event). e.now)) c.in_ok-event.was)
    (sym c.is_failed_with.ensures ∙ c.if-is_failed_with.false)
    (sym c.is_handed_up.ensures ∙ c.if-not-is_handed_up.false)
    c.loop.invariant
