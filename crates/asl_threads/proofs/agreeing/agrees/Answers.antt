use Rattle.std.proofs.Common.{◌≡◌, ℕ, ◌∙◌, ap, true, false}
use Rattle.std.specs.Prelude.{count_by, ◌==◌}
use Rattle.asl_threads.specs.Runs.{SeatView}
use Rattle.asl_threads.proofs.agreeing.agrees.Goals as goal

pub returns-then-times-ne1 : goal.returns-then-times-ne1
returns-then-times-ne1 c = (
  (λ h. let e : false ≡ true = h in cc),
  (λ a. absurd (c.if-times-ne1.true (c.times.ensures ∙ (ap (λ (m : ℕ). count_by (λ (s : SeatView). s.number == m) c.args.seats.now) c.number-number.ensures ∙ a.once)))),
)
