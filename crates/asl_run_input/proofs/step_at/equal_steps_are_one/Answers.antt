use Rattle.std.proofs.Common.{◌≡◌, ◌∙◌, Bool, true, false, refl, sym, ap}
use Rattle.std.specs.Prelude.{nat_eq}
use Rattle.std.specs.Bool.{Decides}
use Rattle.std.specs.Cmp.{unsigned_Decides}
use Rattle.std.specs.Cmp.Lexicographic.{pointwise, bytes_decides}
use Rattle.std.proofs.lemmas.Bool.Decides.{Decides-and}
use Rattle.asl_run_input.specs.Equal.{step_eq}
use Rattle.asl_run_input.specs.declared.step_at.StepAt.{StepAt}
use Rattle.asl_run_input.proofs.step_at.equal_steps_are_one.Goals as goal

step_decides : (a b : StepAt) → Decides (step_eq a b) (a ≡ b)
step_decides a b =
    let d = Decides-and (pointwise nat_eq a.place b.place) _ (bytes_decides a.place b.place) (unsigned_Decides a.moment b.moment) in (
      λ e. λ i. record { place = (d.0 e).0 i; moment = (d.0 e).1 i },
      λ e. d.1 (ap (λ (s : StepAt). s.place) e, ap (λ (s : StepAt). s.moment) e),
    )

pub returns : goal.returns
returns c = step_decides
