use Rattle.std.proofs.Common.{◌≡◌, ◌++◌, drop}
use Rattle.std.specs.Prelude.{string_bytes}
use Rattle.asl_history_formats.specs.JsonLines.{json_lines_text}
use Rattle.asl_history_formats.proofs.json_lines.put_lines.Given as goal

-- the lines so far and those of what is left are those of all
abbrev pub invariant-loop-event : goal.invariant-loop-event
invariant-loop-event l = string_bytes l.out ++ json_lines_text (drop l.event-index l.events) ≡ string_bytes l.fn.out ++ json_lines_text l.events
