use Rattle.std.proofs.Common.{◌∙◌, ap, [], ◌∷◌}
use Rattle.std.specs.Prelude.{map}
use Rattle.std.specs.Vec.Iter.{into_iter_items}
use Rattle.std.proofs.lemmas.List.{map-append}
use Rattle.asl_lint_mocks.specs.Places.{numbers_of}
use Rattle.asl_lint.specs.private.Founds.{noted}
use Rattle.asl_lint.proofs.Mocking.{ruled_more}
use Rattle.asl_lint.proofs.mocks.add_all.Goals as goal

pub loop-place-preserved : goal.loop-place-preserved
loop-place-preserved c =
    let old = c.loop-place.found.items in
    ruled_more c.args.rule (numbers_of (into_iter_items c.loop-place.place-iterator)) (numbers_of (into_iter_items c.next.new.self)) c.in-Some.place.items (map noted old) (map noted c.push.new.self.items) _ (noted c.in_ok-found_at.field-0) (ap numbers_of c.in-Some.ensures.steps.0) (ap (map noted) c.in_ok-push.ensures.items ∙ map-append noted old (c.in_ok-found_at.field-0 ∷ [])) c.in_ok-found_at.ensures c.loop-place.invariant
