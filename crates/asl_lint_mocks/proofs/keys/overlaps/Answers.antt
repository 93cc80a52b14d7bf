use Rattle.std.proofs.Common.{◌∙◌, ◌+◌, ℕ, ap, sym, subst, take}
use Rattle.asl_json.specs.View.{members_of}
use Rattle.asl_mock.specs.Form.{unless}
use Rattle.asl_mock.specs.Key.{span_in}
use Rattle.asl_mock.specs.Faults.{is_apart}
use Rattle.asl_lint_mocks.specs.Places.{numbers_of}
use Rattle.asl_lint_mocks.specs.private.Tops.{IsTop, raised}
use Rattle.asl_lint_mocks.proofs.Overlapping.{overlaps_more, top_more}
use Rattle.asl_lint_mocks.proofs.keys.overlaps.Goals as goal

pub loop-i-preserved : goal.loop-i-preserved
loop-i-preserved c =
    let ms = c.args.answers.now in
    let m = c.index-answers-i.result in
    let span = c.span_in-span.ensures.value ∙ ap span_in c.as_str.ensures in
    record {
      top = subst (λ (t : ℕ). IsTop t (members_of (take (c.loop-i.i + 1) ms))) (sym (c.raised-top.ensures ∙ ap (raised c.loop-i.top) span)) (top_more ms c.loop-i.i m c.loop-i.top c.loop-i-test.true c.index-answers-i.is c.loop-i.invariant.top);
      told = overlaps_more ms c.loop-i.i m (numbers_of c.loop-i.all.items) (numbers_of c.in_ok-own.own.items) (numbers_of c.add_under.new.all.items) _ c.loop-i-test.true c.index-answers-i.is (c.in_ok-own.ensures _ ∙ ap unless (c.is_apart.ensures ∙ ap (λ o. is_apart o (members_of (take c.loop-i.i ms))) span)) c.in_ok-add_under.ensures c.loop-i.invariant.told;
    }
