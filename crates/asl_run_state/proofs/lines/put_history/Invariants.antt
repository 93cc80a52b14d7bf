use Rattle.std.proofs.Common.{◌≡◌, ◌++◌, drop}
use Rattle.std.specs.Prelude.{string_bytes}
use Rattle.asl_json_write.specs.Buffers.{Keeps}
use Rattle.asl_history.specs.Lines.{history_text}
use Rattle.asl_run_state.proofs.lines.put_history.Given as goal

abbrev pub invariant-loop-event : goal.invariant-loop-event
invariant-loop-event l = (string_bytes l.out ++ history_text (drop l.event-index l.event-items) ≡ string_bytes l.fn.out ++ history_text l.fn.history.events) × Keeps (string_bytes l.fn.out) (string_bytes l.out)
