use Rattle.std.proofs.Common.{◌≡◌, drop}
use Rattle.toml.specs.View.{items_view}
use Rattle.asl_project.specs.Form.{workflows_fit}
use Rattle.asl_project.proofs.form.workflows_fit.Given as goal

-- what is left decides
abbrev pub invariant-loop-workflow : goal.invariant-loop-workflow
invariant-loop-workflow l = workflows_fit (items_view l.workflows) ≡ workflows_fit (items_view (drop l.workflow-index l.workflows))
