use Rattle.std.proofs.Common.{◌∙◌, ℕ, List, sym, ap, take}
use Rattle.asl_mock.specs.Answers.{answer_to}
use Rattle.asl_error_plans.specs.Injected.{under_plan}
use Rattle.asl_error_plans.proofs.Planned.{under_alike, plan_more}
use Rattle.asl_error_plans.proofs.under.case_under.Goals as goal

pub loop-error-preserved : goal.loop-error-preserved
loop-error-preserved c =
    let before = under_plan (take c.loop-error.error-index c.args.plan.now) (answer_to c.args.case.now) in
    let more = plan_more (answer_to c.args.case.now) c.args.plan.now c.loop-error.error-index c.error-item.result c.loop-error-test.true c.error-item.is in
    λ state k top. c.in_ok-under-2.ensures state k top ∙ under_alike (answer_to c.loop-error.under) before c.error-item.result c.loop-error.invariant state k top ∙ ap (λ (f : List ℕ → ℕ → _). f state k) (sym more)
