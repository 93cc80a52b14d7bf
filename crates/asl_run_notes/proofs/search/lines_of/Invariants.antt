use Rattle.std.proofs.Common.{◌≡◌, drop}
use Rattle.std.specs.Prelude.{map, string_bytes}
use Rattle.asl_exec.specs.Views.{setup_of}
use Rattle.asl_run_notes.specs.Notes.{note_of_found, search_notes, with_lines}
use Rattle.asl_run_notes.proofs.search.lines_of.Given as goal

abbrev pub invariant-loop-found : goal.invariant-loop-found
invariant-loop-found l = record {
  left : with_lines (map string_bytes l.lines.items) (map (note_of_found l.chosen (setup_of l.fn.execution)) (drop l.found-index l.found)) ≡ search_notes l.chosen (setup_of l.fn.execution) l.found;
  same : setup_of l.execution ≡ setup_of l.fn.execution;
}
