use Rattle.std.proofs.Common.{◌≡◌, drop}
use Rattle.std.specs.Prelude.{map, string_bytes}
use Rattle.asl_def_schema.specs.Members.{is_among}
use Rattle.asl_run_notes.proofs.search.is_among.Given as goal

abbrev pub invariant-loop-other : goal.invariant-loop-other
invariant-loop-other l = is_among l.line (map string_bytes l.lines) ≡ is_among l.line (map string_bytes (drop l.other-index l.lines))
