use Rattle.std.proofs.Common.{rules, refl}
use Rattle.std.specs.Vec.Iter.{into_iter_items}
use Rattle.asl_lint.proofs.Telling.{same_step}
use Rattle.asl_lint.proofs.placing.positioned.Goals as goal

pub loop-spanned-preserved : goal.loop-spanned-preserved
loop-spanned-preserved c = record {
  here = c.reached-here.ensures.position;
  at = search rules;
  same = same_step (into_iter_items c.loop-spanned.spanned-iterator) (into_iter_items c.next.new.self) c.in-Some.spanned c.loop-spanned.findings.items c.push.new.self.items _ _ c.in-Some.ensures.steps.0 c.in_ok-push.ensures.items refl c.loop-spanned.invariant.same;
}
