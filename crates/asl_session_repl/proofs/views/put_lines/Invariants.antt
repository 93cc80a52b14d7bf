use Rattle.std.proofs.Common.{◌≡◌, ◌++◌, drop}
use Rattle.std.specs.Prelude.{string_bytes}
use Rattle.asl_history.specs.Lines.{history_text}
use Rattle.asl_session_repl.proofs.views.put_lines.Given as goal

abbrev pub invariant-loop-event : goal.invariant-loop-event
invariant-loop-event l = string_bytes l.out ++ history_text (drop l.event-index l.events) ≡ string_bytes l.fn.out ++ history_text l.events
