use Rattle.std.proofs.Common.{subst, List, ℕ}
use Rattle.std.specs.Prelude.{option_map}
use Rattle.std.proofs.lemmas.Result.{IfOk-weaker}
use Rattle.asl_json_data.specs.Data.{Data}
use Rattle.asl_json_data.specs.Distinct.{Members}
use Rattle.asl_json.specs.View.{data_of}
use Rattle.asl_mock.specs.Places.{Place, in_each}
use Rattle.asl_lint_mocks.specs.Beside.{in_machine, is_meant, machines_in}
use Rattle.asl_lint_mocks.specs.Places.{AreAt, numbers_of}
use Rattle.asl_lint_mocks.specs.private.Fitting.{fitting}
use Rattle.asl_lint_mocks.proofs.beside.misnamed.Goals as goal

pub returns : goal.returns
returns c =
    let fit = fitting c.args.sort c.args.known.now in
    let w = option_map (λ k. k.now) c.args.machine in
    let told : Members → List ℕ × Data → List Place = λ ms m. in_machine fit (is_meant w ms m.0) m in
    IfOk-weaker c.under_key.result _ _ (λ r h. h (told (machines_in (data_of c.args.file.now))) (subst (λ (ms : Members). AreAt ms (numbers_of c.in_ok-places.places.items) (in_each (told ms) ms)) c.members_at.ensures.listed c.in_ok-places.ensures)) c.under_key.ensures
