use Rattle.std.proofs.Common.{◌≡◌, ◌++◌, ◌*◌, ◌≤◌, length, take}
use Rattle.asl_history.specs.Lines.{history_text}
use Rattle.asl_history.proofs.history.History.write_all_lines.Given as goal

abbrev pub invariant-loop-event : goal.invariant-loop-event
invariant-loop-event g l =
    (g.W.Sink.taken l.sink ≡ g.W.Sink.taken l.fn.sink ++ history_text (take l.event-index l.event-items))
    × (l.sent ≡ length (history_text (take l.event-index l.event-items)))
    × (l.sent ≤ l.event-index * 18446744073709551615)
    × (g.W.Sink.failures l.sink ≡ g.W.Sink.failures l.fn.sink)
