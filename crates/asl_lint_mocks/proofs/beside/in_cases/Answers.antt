use Rattle.std.proofs.Common.{subst}
use Rattle.asl_json_data.specs.Distinct.{Members}
use Rattle.asl_mock.specs.Form.{unless}
use Rattle.asl_mock.specs.Places.{in_each}
use Rattle.asl_lint_mocks.specs.Beside.{in_case}
use Rattle.asl_lint_mocks.specs.Places.{AreAt, numbers_of}
use Rattle.asl_lint_mocks.specs.private.Fitting.{fitting}
use Rattle.asl_lint_mocks.proofs.Each.{each_more}
use Rattle.asl_lint_mocks.proofs.beside.in_cases.Goals as goal

pub loop-i-preserved : goal.loop-i-preserved
loop-i-preserved c =
    let fit = fitting c.args.sort c.args.known.now in
    each_more (in_case fit) c.args.cases.now c.loop-i.i c.index-cases-i.result (numbers_of c.loop-i.all.items) (numbers_of c.in_ok-inner.inner.items) (numbers_of c.add_under.new.all.items) c.loop-i-test.true c.index-cases-i.is c.loop-i.invariant (subst (λ (ms : Members). AreAt ms (numbers_of c.in_ok-inner.inner.items) (in_each (λ s. unless (fit s.0)) ms)) c.members.ensures.listed c.in_ok-inner.ensures) c.in_ok-add_under.ensures
