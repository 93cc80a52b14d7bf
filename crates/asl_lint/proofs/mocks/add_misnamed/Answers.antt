use Rattle.std.proofs.Common.{◌∙◌, ap, List, ℕ, Bool}
use Rattle.std.specs.Prelude.{map, option_map}
use Rattle.std.proofs.lemmas.Result.{on_ok_weaker}
use Rattle.asl_json.specs.View.{data_of}
use Rattle.asl_mock.specs.Places.{Place}
use Rattle.asl_json.specs.Access.{member_list}
use Rattle.asl_lint_mocks.specs.declared.beside.NameFault.{NameFault}
use Rattle.asl_lint_mocks.specs.declared.beside.NameFault.TheVariants.{Unknown, NoTask}
use Rattle.asl_lint_mocks.specs.Beside.{fits, misnamed, unclear}
use Rattle.asl_lint.specs.Mocks.{is_state, is_task}
use Rattle.asl_lint.specs.private.Founds.{noted}
use Rattle.asl_lint.proofs.Mocking.{beside_grows, fits_known}
use Rattle.asl_lint.proofs.mocks.add_misnamed.Goals as goal

pub returns : goal.returns
returns c =
    let d = data_of c.args.file.now in
    let ms = member_list d in
    let w = option_map (λ k. k.now) c.args.beside.machine in
    let told : (List ℕ → Bool) → List Place = λ f. misnamed w f d in
    on_ok_weaker c.add-3.result
    (λ h ss known.
    let named : NameFault → List Place = λ f. told (fits f (is_state ss) (is_task ss)) in
    beside_grows w ss d (map noted c.args.found.now.items) (map noted c.add.new.found.items) (map noted c.add-2.new.found.items) (map noted c.add-3.new.found.items)
    (c.in_ok-add.ensures ms (unclear w d) c.in_ok-unclear.ensures)
    (c.in_ok-add-2.ensures ms (named Unknown) (c.in_ok-unknown.ensures ∙ ap told (fits_known Unknown c.args.known.now ss known)))
    (h ms (named NoTask) (c.in_ok-no_tasks.ensures ∙ ap told (fits_known NoTask c.args.known.now ss known))))
    c.add-3.ensures
