use Rattle.std.proofs.Common.{◌∙◌, ap, subst}
use Rattle.std.specs.Prelude.{codes, is_some}
use Rattle.asl_json_data.specs.Distinct.{Members}
use Rattle.asl_json.specs.View.{data_of, members_of}
use Rattle.asl_mock.specs.Answers.{responses_of}
use Rattle.asl_mock.specs.Faults.{lost_in_machine}
use Rattle.asl_lint_mocks.specs.Lost.{is_known}
use Rattle.asl_mock.specs.Places.{in_each}
use Rattle.asl_json.specs.Access.{member_list_at}
use Rattle.asl_mock.specs.Tables.{value_for}
use Rattle.asl_lint_mocks.specs.Places.{AreAt, numbers_of}
use Rattle.asl_lint_mocks.specs.private.Known.{HasNames}
use Rattle.asl_lint_mocks.proofs.Naming.{known}
use Rattle.asl_lint_mocks.proofs.every.faults_of.Goals as goal

pub returns-clause-lost_names : goal.returns-clause-lost_names
returns-clause-lost_names c =
    let rs = responses_of (member_list_at (codes "MockedResponses") (data_of c.args.file.now)) in
    let names : HasNames c.in_ok-names.names rs = λ k. c.in_ok-names.ensures k ∙ known k (members_of c.members_at-responses.result.now) ∙ ap (λ (ms : Members). is_some (value_for k (responses_of ms))) c.members_at-responses.ensures.listed in
    c.in_ok-under_key-3.ensures (lost_in_machine (is_known rs)) (subst (λ (ms : Members). AreAt ms (numbers_of c.in_ok-lost.lost.items) (in_each (lost_in_machine (is_known rs)) ms)) c.members_at.ensures.listed (c.in_ok-lost.ensures rs names))
