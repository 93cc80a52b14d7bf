use Rattle.std.proofs.Common.{◌∙◌, ap, List, ℕ, ◌++◌, ◌∷◌, []}
use Rattle.std.specs.Prelude.{codes}
use Rattle.asl_json.specs.View.{data_of, members_of}
use Rattle.asl_lint_mocks.proofs.Each.{place_some, place_none}
use Rattle.asl_lint_mocks.proofs.beside.machines_place.Goals as goal
use Rattle.asl_lint_mocks.proofs.beside.machines_place.Goals.{in-Some+in_ok-push, in_default}

pub returns : goal.returns
returns c =
    let d = data_of c.args.file.now in
    let ms = members_of c.members.result.now in
    let k = codes "StateMachines" in
    elim c.match-number_at.branch [
      | in-Some+in_ok-push w ↦ place_some k d ms c.number_at.result w.in-Some.at c.match-number_at.place.items c.number_at.ensures c.members.ensures.listed w.in-Some.is (ap (λ v. v.items) w.place-is ∙ w.in_ok-push.ensures.items ∙ ap (λ (is : List ℕ). is ++ w.in-Some.at ∷ []) c.new-place.ensures.items)
      | in_default w ↦ place_none k d ms c.number_at.result c.match-number_at.place.items c.number_at.ensures c.members.ensures.listed w.in_default.is (ap (λ v. v.items) w.place-is ∙ c.new-place.ensures.items)
    ]
