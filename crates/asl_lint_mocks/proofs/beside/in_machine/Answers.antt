use Rattle.std.proofs.Common.{subst, sym, Bool}
use Rattle.std.specs.Prelude.{false}
use Rattle.std.proofs.lemmas.Result.{IfOk-weaker}
use Rattle.asl_json_data.specs.Distinct.{Members}
use Rattle.asl_json.specs.View.{data_of}
use Rattle.asl_mock.specs.Places.{in_each}
use Rattle.asl_json.specs.Access.{member_list}
use Rattle.asl_lint_mocks.specs.Beside.{in_case, in_machine}
use Rattle.asl_lint_mocks.specs.Places.{AreAt, numbers_of}
use Rattle.asl_lint_mocks.specs.private.Fitting.{fitting}
use Rattle.asl_lint_mocks.proofs.beside.in_machine.Goals as goal

pub returns : goal.returns
returns c =
    let fit = fitting c.args.sort c.args.known.now in
    let d = data_of c.args.machine.now in
    let cases = subst (λ (ms : Members). AreAt ms (numbers_of c.in_ok-cases.cases.items) (in_each (in_case fit) ms)) c.members_at.ensures.listed c.in_ok-cases.ensures in
    IfOk-weaker c.under_key.result _ _ (λ r h. λ k. subst (λ (b : Bool). AreAt (member_list d) (numbers_of r.items) (in_machine fit b (k, d))) (sym c.if-not-is_meant.false) (h (in_case fit) cases)) c.under_key.ensures
