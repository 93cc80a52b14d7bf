use Rattle.std.proofs.Common.{[], subst}
use Rattle.asl_json_data.specs.Distinct.{Members}
use Rattle.asl_mock.specs.Faults.{overlaps_in, overlaps_behind}
use Rattle.asl_lint_mocks.specs.Places.{AreAt, numbers_of}
use Rattle.asl_lint_mocks.proofs.Each.{each_more}
use Rattle.asl_lint_mocks.proofs.keys.all_overlaps.Goals as goal

pub loop-i-preserved : goal.loop-i-preserved
loop-i-preserved c = each_more overlaps_in c.args.responses.now c.loop-i.i c.index-responses-i.result (numbers_of c.loop-i.all.items) (numbers_of c.in_ok-inner.inner.items) (numbers_of c.add_under.new.all.items) c.loop-i-test.true c.index-responses-i.is c.loop-i.invariant (subst (λ (ms : Members). AreAt ms (numbers_of c.in_ok-inner.inner.items) (overlaps_behind [] ms)) c.members.ensures.listed c.in_ok-inner.ensures) c.in_ok-add_under.ensures
