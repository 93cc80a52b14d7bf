use Rattle.std.proofs.Common.{◌≡◌, ◌++◌, drop}
use Rattle.std.specs.Prelude.{map, string_bytes}
use Rattle.asl_run_notes.specs.Notes.{notes_text}
use Rattle.asl_run_notes.proofs.search.joined.Given as goal

abbrev pub invariant-loop-line : goal.invariant-loop-line
invariant-loop-line l = string_bytes l.text ++ notes_text (map string_bytes (drop l.line-index l.lines)) ≡ notes_text (map string_bytes l.lines)
