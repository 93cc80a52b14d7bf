use Rattle.asl_history.specs.Sending.{sent_of}
use Rattle.asl_history.proofs.Pieces.{part_of, short_of}
use Rattle.asl_history.proofs.history.History.write_all_lines.Goals as goal

pub returns-in-Err-clause-part : goal.returns-in-Err-clause-part
returns-in-Err-clause-part g c =
    part_of _ _ _ c.events-event-items.result.now c.args.self.now.events c.loop-event.event-index (sent_of c.in-Err.fault) c.loop-event.sent (sent_of c.after.result) c.event-item.result c.loop-event.invariant.0 c.loop-event.invariant.1 c.in-Err.ensures.part c.after.ensures.sent c.loop-event-test.true c.event-item.is c.in-Err.ensures.short c.events-event-items.ensures.value

pub returns-in-Err-clause-short : goal.returns-in-Err-clause-short
returns-in-Err-clause-short g c =
    short_of c.events-event-items.result.now c.args.self.now.events c.loop-event.event-index (sent_of c.in-Err.fault) c.loop-event.sent (sent_of c.after.result) c.event-item.result c.loop-event.invariant.1 c.after.ensures.sent c.loop-event-test.true c.event-item.is c.in-Err.ensures.short c.events-event-items.ensures.value
