use Rattle.std.proofs.Common.{sym, subst, []}
use Rattle.asl_json_spans.specs.Standing.{IsOutline}
use Rattle.asl_json_spans.proofs.Onward.{way_is, found_more, found_all}
use Rattle.asl_json_spans.proofs.finding.Outline.find_all.Goals as goal

pub loop-place-preserved : goal.loop-place-preserved
loop-place-preserved c =
    record {
      all = found_more c.self.inside.nodes.items c.deref.result.now c.args.places.now c.loop-place.place-index (record { ref_ptr = (0, 0); now = [] }) c.loop-place.all.items c.push.new.self.items c.first_of.result c.in_ok-rest.rest.now c.loop-place-test.true c.loop-place.invariant.all c.in_ok-push.ensures.items c.first_of.ensures c.in_ok-rest.ensures.found c.deref.ensures.value;
      trail = way_is _ c.self.inside.nodes.items _ c.in_ok-way.way.items c.reach.new.way.items c.in_ok-way.ensures.items c.in_ok-rest.ensures.way c.deref.ensures.value;
    }

pub returns : goal.returns
returns c = λ b d h. found_all b d c.self.inside.nodes.items c.args.places.now c.loop-place.place-index c.loop-place.all.items c.loop-place-test.false c.loop-place.invariant.all (subst (IsOutline b d) (sym c.self.view_is) h)
