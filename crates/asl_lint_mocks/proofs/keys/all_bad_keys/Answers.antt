use Rattle.std.proofs.Common.{subst}
use Rattle.asl_json_data.specs.Distinct.{Members}
use Rattle.asl_mock.specs.Places.{in_each}
use Rattle.asl_mock.specs.Faults.{bad_keys_in, bad_key}
use Rattle.asl_lint_mocks.specs.Places.{AreAt, numbers_of}
use Rattle.asl_lint_mocks.proofs.Each.{each_more}
use Rattle.asl_lint_mocks.proofs.keys.all_bad_keys.Goals as goal

pub loop-i-preserved : goal.loop-i-preserved
loop-i-preserved c = each_more bad_keys_in c.args.responses.now c.loop-i.i c.index-responses-i.result (numbers_of c.loop-i.all.items) (numbers_of c.in_ok-inner.inner.items) (numbers_of c.add_under.new.all.items) c.loop-i-test.true c.index-responses-i.is c.loop-i.invariant (subst (λ (ms : Members). AreAt ms (numbers_of c.in_ok-inner.inner.items) (in_each bad_key ms)) c.members.ensures.listed c.in_ok-inner.ensures) c.in_ok-add_under.ensures
