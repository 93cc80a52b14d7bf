use Rattle.std.proofs.Common.{◌≡◌, ℕ, ◌<◌, slice_index_or}
use Rattle.std.specs.Prelude.{Any, MatchOption}
use Rattle.asl_threads.specs.Runs.{SeatView}
use Rattle.asl_threads.specs.Closing.{Agrees}
use Rattle.asl_threads.proofs.agreeing.mismatch.Given as goal

abbrev pub invariant-loop-seat : goal.invariant-loop-seat
invariant-loop-seat l = MatchOption l.least
    ((j : ℕ) (d : SeatView) → j < l.seat-index → Agrees l.count l.rows l.seats (slice_index_or l.seats j d))
    (λ k. Any (λ s. (s.number ≡ k) × ¬ Agrees l.count l.rows l.seats s) l.seats
    × ((j : ℕ) (d : SeatView) → j < l.seat-index → (slice_index_or l.seats j d).number < k → Agrees l.count l.rows l.seats (slice_index_or l.seats j d)))
