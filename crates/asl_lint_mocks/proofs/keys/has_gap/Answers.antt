use Rattle.std.proofs.Common.{◌∙◌, ◌<◌, ℕ, ap, sym, subst}
use Rattle.asl_json.specs.View.{members_of}
use Rattle.asl_mock.specs.Key.{span_in}
use Rattle.asl_lint_mocks.specs.Warnings.{begins_bare}
use Rattle.asl_lint_mocks.specs.private.Tops.{reached}
use Rattle.asl_lint_mocks.proofs.Answering.{answered_more, left_more}
use Rattle.asl_lint_mocks.proofs.keys.has_gap.Goals as goal

pub loop-member-preserved : goal.loop-member-preserved
loop-member-preserved c =
    let ms = c.args.answers.now in
    let m = c.member-item.result in
    let span = c.span_in-span.ensures.value ∙ ap span_in c.as_str.ensures in
    record {
      reach = λ n below. answered_more ms c.loop-member.member-index m c.loop-member.reach c.loop-member-test.true c.member-item.is c.loop-member.invariant.reach n (subst (λ (r : ℕ). n < r) (c.reached-reach.ensures ∙ ap (reached c.loop-member.reach) span) below);
      left = left_more ms c.loop-member.member-index m c.loop-member-test.true c.member-item.is (ap (begins_bare (members_of ms)) (sym span) ∙ sym c.begins_bare.ensures ∙ c.if-begins_bare.false) c.loop-member.invariant.left;
    }
