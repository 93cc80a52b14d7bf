use Rattle.std.proofs.Common.{◌≡◌, drop}
use Rattle.toml.specs.View.{items_view}
use Rattle.asl_project.specs.Form.{know_their_keys}
use Rattle.asl_project.proofs.form.know_their_keys.Given as goal

-- what is left decides
abbrev pub invariant-loop-workflow : goal.invariant-loop-workflow
invariant-loop-workflow l = know_their_keys (items_view l.workflows) ≡ know_their_keys (items_view (drop l.workflow-index l.workflows))
