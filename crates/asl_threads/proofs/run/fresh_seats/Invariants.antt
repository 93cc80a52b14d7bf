use Rattle.std.proofs.Common.{◌≡◌, ℕ, ◌<◌, vec_len}
use Rattle.std.specs.Prelude.{slice_get, Some}
use Rattle.asl_threads.specs.Runs.{fresh}
use Rattle.asl_threads.proofs.run.fresh_seats.Given as goal

abbrev pub invariant-loop-number : goal.invariant-loop-number
invariant-loop-number l = record {
  count : vec_len l.seats ≡ l.number;
  fresh : (k : ℕ) → k < l.number → slice_get l.seats.items k ≡ Some (fresh l.label k);
}
