use Rattle.std.proofs.Common.{ap, ◌∙◌, ◌∷◌, [], List, ℕ}
use Rattle.std.proofs.lemmas.Result.{IfOk-weaker}
use Rattle.asl_mock.specs.Answers.{Case}
use Rattle.asl_error_plans.proofs.Planned.{one_error}
use Rattle.asl_error_plans.proofs.under.under_error.Goals as goal

pub returns : goal.returns
returns c =
    IfOk-weaker c.merged_with.result _ _
    (λ (d : Case) all. λ state k top. one_error c.args.case.now d c.in_ok-own.own c.in_ok-response.response c.args.error.now state k top c.in_ok-response.ensures (c.in_ok-own.ensures ∙ ap (λ (s : List ℕ). (s, c.in_ok-response.response) ∷ []) c.as_str.ensures) all)
    c.merged_with.ensures
