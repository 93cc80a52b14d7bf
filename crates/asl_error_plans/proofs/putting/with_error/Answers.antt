use Rattle.std.proofs.Common.{◌∙◌, sym, ap, subst, arith}
use Rattle.std.proofs.lemmas.Result.{IfOk-weaker}
use Rattle.asl_mock.specs.Answers.{first_with, Response}
use Rattle.asl_mock.specs.private.Apart.{AreApart}
use Rattle.asl_error_plans.specs.Spans.{put_in}
use Rattle.asl_error_plans.proofs.Putting_in.{put_apart, put_found}
use Rattle.asl_error_plans.proofs.putting.with_error.Goals as goal

pub of_answers-requires : goal.of_answers-requires
of_answers-requires c =
    let all = c.in_ok-answers.ensures ∙ ap (put_in c.args.number c.args.for_good c.args.error.now) c.by_number.ensures.all in
    subst AreApart (sym all) (put_apart c.args.number c.args.for_good c.args.error.now c.args.response.now (omega (arith, c.ranges.number.fits)) c.by_number.ensures.apart)

pub returns : goal.returns
returns c =
    let all = c.in_ok-answers.ensures ∙ ap (put_in c.args.number c.args.for_good c.args.error.now) c.by_number.ensures.all in
    IfOk-weaker c.of_answers.result _ _
    (λ (r : Response) same. λ k top. ap (first_with k) (same ∙ all) ∙ put_found c.args.number c.args.for_good c.args.error.now c.args.response.now k top)
    c.of_answers.ensures
