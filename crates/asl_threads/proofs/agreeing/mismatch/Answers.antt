use Rattle.std.proofs.Common.{◌≡◌, ℕ, refl, sym, ◌∙◌, subst, slice_index_or, Option, ◌+◌, min, true, false}
use Rattle.std.specs.Option.{option_map_or}
use Rattle.std.proofs.lemmas.List.{get_or_default}
use Rattle.asl_threads.specs.Runs.{SeatView}
use Rattle.asl_threads.specs.Closing.{Agrees}
use Rattle.asl_threads.proofs.Least.{IsLeastSoFar, least_kept, least_lowered, least_final}
use Rattle.asl_threads.proofs.agreeing.mismatch.Goals as goal
use Rattle.asl_threads.proofs.agreeing.mismatch.Goals.{then-not-agrees, else-not-agrees}

pub loop-seat-preserved : goal.loop-seat-preserved
loop-seat-preserved c =
    let here : (d : SeatView) → slice_index_or c.args.seats.now c.loop-seat.seat-index d ≡ c.seat-item.result = λ d. get_or_default c.args.seats.now c.loop-seat.seat-index d c.seat-item.result c.loop-seat-test.true ∙ sym c.seat-item.is in
    elim c.if-not-agrees.branch [
      | then-not-agrees w ↦ subst (λ (o : Option ℕ). IsLeastSoFar c.args.count c.args.rows.now c.args.seats.now (c.loop-seat.seat-index + 1) o) (sym w.least-is) (
          least_lowered c.args.count c.args.rows.now c.args.seats.now c.loop-seat.seat-index c.loop-seat.least c.seat-item.result c.loop-seat.invariant c.loop-seat-test.true here
          (λ h. let e : false ≡ true = w.if-not-agrees.ensures.1 h in cc)
          w.lesser.result
          (subst (λ (m : ℕ). w.lesser.result ≡ option_map_or (λ (k : ℕ). min k m) c.loop-seat.least m) w.number.ensures w.lesser.ensures))
      | else-not-agrees w ↦ subst (λ (o : Option ℕ). IsLeastSoFar c.args.count c.args.rows.now c.args.seats.now (c.loop-seat.seat-index + 1) o) (sym w.least-is) (
          least_kept c.args.count c.args.rows.now c.args.seats.now c.loop-seat.seat-index c.loop-seat.least c.loop-seat.invariant
          (λ d. subst (λ (s : SeatView). Agrees c.args.count c.args.rows.now c.args.seats.now s) (sym (here d)) (w.if-not-agrees.ensures.0 refl)))
    ]

pub returns : goal.returns
returns c = least_final c.args.count c.args.rows.now c.args.seats.now c.loop-seat.seat-index c.loop-seat.least c.loop-seat.invariant c.loop-seat-test.false
