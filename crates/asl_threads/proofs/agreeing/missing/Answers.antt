use Rattle.std.proofs.Common.{◌≡◌, refl}
use Rattle.std.specs.Prelude.{Any}
use borrow.Author.Count.{below_more}
use Rattle.asl_threads.proofs.agreeing.missing.Goals as goal

pub loop-number-preserved : goal.loop-number-preserved
loop-number-preserved c = below_more (λ k. Any (λ s. s.number ≡ k) c.args.seats.now) c.loop-number.number c.loop-number.invariant (c.if-not-has_seat.ensures.0 refl)
