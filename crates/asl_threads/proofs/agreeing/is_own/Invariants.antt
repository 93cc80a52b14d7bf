use Rattle.std.proofs.Common.{◌≡◌, ◌≤◌, length, drop, ◌↔◌}
use Rattle.asl_threads.specs.Runs.{rows_of}
use Rattle.asl_threads.proofs.agreeing.is_own.Given as goal

abbrev pub invariant-loop-row : goal.invariant-loop-row
invariant-loop-row l = record {
  inside : l.at ≤ length l.list;
  rest : (l.list ≡ rows_of l.number l.rows) ↔ (drop l.at l.list ≡ rows_of l.number (drop l.row-index l.rows));
}
