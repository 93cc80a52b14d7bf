use Rattle.std.proofs.Common.{◌≡◌, ◌∙◌, ap, subst, List, ℕ}
use Rattle.std.specs.Prelude.{codes}
use Rattle.std.specs.HashSet.{contains_text}
use Rattle.std.specs.List.{list_any}
use Rattle.std.proofs.lemmas.Result.{IfOk-weaker}
use Rattle.asl_json_data.specs.Data.{Data}
use Rattle.asl_json_data.specs.Distinct.{Members}
use Rattle.asl_json.specs.View.{data_of}
use Rattle.asl_mock.specs.Form.{unless}
use Rattle.asl_mock.specs.Places.{Place, in_each}
use Rattle.asl_json.specs.Access.{member_list_at}
use Rattle.asl_lint_mocks.specs.Places.{AreAt, numbers_of}
use Rattle.asl_lint_mocks.specs.Warnings.{is_named, machine_names}
use Rattle.asl_lint_mocks.proofs.Naming.{each_same}
use Rattle.asl_lint_mocks.proofs.names.unused_responses.Goals as goal

pub returns : goal.returns
returns c =
    let d = data_of c.args.file.now in
    let told : List ℕ × Data → List Place = λ r. unless (is_named d r.0) in
    let same : (m : List ℕ × Data) → unless (contains_text c.in_ok-named.named m.0) ≡ told m = λ m. ap unless (c.in_ok-named.ensures m.0 ∙ ap (list_any (machine_names m.0)) c.members_at.ensures.listed) in
    let ms = member_list_at (codes "MockedResponses") d in
    let places = subst (λ (xs : Members). AreAt xs (numbers_of c.in_ok-places.places.items) (in_each (λ m. unless (contains_text c.in_ok-named.named m.0)) xs)) c.members_at-2.ensures.listed c.in_ok-places.ensures in
    IfOk-weaker c.under_key.result _ _ (λ r h. h told (places ∙ each_same (λ m. unless (contains_text c.in_ok-named.named m.0)) told same ms)) c.under_key.ensures
