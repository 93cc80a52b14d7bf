use Rattle.std.proofs.Common.{◌≡◌, ◌∙◌, ap, arith, refl, Option, Some, None}
use Rattle.std.specs.Prelude.{is_some, option_map}
use Rattle.asl_explore.proofs.Running.{run-put}
use Rattle.asl_explore.proofs.answers.runs_of.Goals as goal

some-map : {A B : Type 0} (f : A → B) (o : Option A) → is_some o ≡ is_some (option_map f o)
some-map f None = refl
some-map f (Some a) = refl

pub loop-low-preserved : goal.loop-low-preserved
loop-low-preserved c =
    let high = c.end_of-high.ensures in
    let is = c.is_some.ensures ∙ some-map (λ a. a.now) c.answer.result ∙ ap is_some c.answer.ensures in
    rw c.in_ok-push.ensures.items (record {
      runs = run-put c.args.case.now c.args.task.now c.loop-low.low c.end_of-high.result c.is_some.result c.loop-low.runs.items high.order high.within high.one high.ends is c.loop-low.invariant.runs;
      within = omega (arith, high.within);
    })
