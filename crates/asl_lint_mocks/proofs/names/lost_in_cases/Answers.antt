use Rattle.std.proofs.Common.{subst}
use Rattle.asl_json_data.specs.Distinct.{Members}
use Rattle.asl_mock.specs.Places.{in_each}
use Rattle.asl_mock.specs.Faults.{lost_name, lost_in_case}
use Rattle.asl_lint_mocks.specs.Lost.{is_known}
use Rattle.asl_lint_mocks.specs.Places.{AreAt, numbers_of}
use Rattle.asl_lint_mocks.proofs.Each.{each_more}
use Rattle.asl_lint_mocks.proofs.names.lost_in_cases.Goals as goal

pub loop-i-preserved : goal.loop-i-preserved
loop-i-preserved c = λ rs h. each_more (lost_in_case (is_known rs)) c.args.cases.now c.loop-i.i c.index-cases-i.result (numbers_of c.loop-i.all.items) (numbers_of c.in_ok-inner.inner.items) (numbers_of c.add_under.new.all.items) c.loop-i-test.true c.index-cases-i.is (c.loop-i.invariant rs h) (subst (λ (ms : Members). AreAt ms (numbers_of c.in_ok-inner.inner.items) (in_each (lost_name (is_known rs)) ms)) c.members.ensures.listed (c.in_ok-inner.ensures rs h)) c.in_ok-add_under.ensures
