use Rattle.std.proofs.Common.{subst}
use Rattle.asl_json_data.specs.Distinct.{Members}
use Rattle.asl_mock.specs.Places.{in_each}
use Rattle.asl_mock.specs.Faults.{lost_in_case, lost_in_machine}
use Rattle.asl_lint_mocks.specs.Lost.{is_known}
use Rattle.asl_lint_mocks.specs.Places.{AreAt, numbers_of}
use Rattle.asl_lint_mocks.proofs.Each.{each_more}
use Rattle.asl_lint_mocks.proofs.names.lost_in_machines.Goals as goal

pub loop-i-preserved : goal.loop-i-preserved
loop-i-preserved c = λ rs h. each_more (lost_in_machine (is_known rs)) c.args.machines.now c.loop-i.i c.index-machines-i.result (numbers_of c.loop-i.all.items) (numbers_of c.in_ok-inner.inner.items) (numbers_of c.add_under.new.all.items) c.loop-i-test.true c.index-machines-i.is (c.loop-i.invariant rs h) (c.in_ok-inner.ensures (lost_in_case (is_known rs)) (subst (λ (ms : Members). AreAt ms (numbers_of c.in_ok-cases.cases.items) (in_each (lost_in_case (is_known rs)) ms)) c.members_at.ensures.listed (c.in_ok-cases.ensures rs h))) c.in_ok-add_under.ensures
