use Rattle.std.proofs.Common.{◌≡◌, ◌∙◌, ap, sym}
use Rattle.std.specs.Prelude.{Some, codes, option_map}
use Rattle.asl_json.specs.View.{data_of, json_of-data_of}
use Rattle.asl_json.specs.Meaning.{value_in}
use Rattle.asl_mock.specs.Answers.{answer_by}
use Rattle.asl_mock.specs.declared.response.Answer.TheVariants.{Returns}
use Rattle.asl_mock.proofs.response.answer_of.Goals as goal

pub returns-in_ok-try_clone-in-Some : goal.returns-in_ok-try_clone-in-Some
returns-in_ok-try_clone-in-Some c =
    let d = data_of c.args.value.now in
    let is : value_in (codes "Return") d ≡ Some (data_of c.in-Some.value.now) = sym c.get.ensures ∙ ap (option_map (λ v. data_of v.now)) c.in-Some.is in
    ap Returns (c.in_ok-try_clone-in-Some.ensures ∙ sym (json_of-data_of c.in-Some.value.now)) ∙ ap (λ o. answer_by o (value_in (codes "Throw") d)) (sym is)
