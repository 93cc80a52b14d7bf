use Rattle.std.proofs.Common.{◌∙◌, ◌<◌, ◌≤◌, length, ap, arith}
use Rattle.std.specs.Prelude.{Some}
use Rattle.std.proofs.lemmas.Bool.Decides.{nat_tests}
use Rattle.toml.specs.View.{view}
use Rattle.asl_project.specs.Form.{has_key}
use Rattle.toml.proofs.Views.{get_item_within, get_item_past}
use Rattle.asl_project.proofs.form.has_member.Goals as goal

pub returns-in-Some : goal.returns-in-Some
returns-in-Some c =
    let within : c.args.number < length c.args.workflows.now = grind (arith, nat_tests, c.in-Some.ensures.lookup.0) in
    let found = ap (λ v. Some (view v)) c.in-Some.ensures.lookup.1 ∙ get_item_within c.args.workflows.now c.args.number c.in-Some.workflow.now within in
    c.has.ensures ∙ ap (has_key c.args.key.now) found

pub returns-in-None : goal.returns-in-None
returns-in-None c =
    let past : length c.args.workflows.now ≤ c.args.number = grind (arith, nat_tests, c.in-None.ensures.lookup.0) in
    ap (has_key c.args.key.now) (get_item_past c.args.workflows.now c.args.number past)
