use Rattle.std.proofs.Common.{◌≡◌, drop}
use Rattle.toml.specs.View.{items_view}
use Rattle.asl_project.specs.Form.{is_named_among}
use Rattle.asl_project.proofs.same.is_named_among.Given as goal

-- what is left decides
abbrev pub invariant-loop-workflow : goal.invariant-loop-workflow
invariant-loop-workflow l = is_named_among l.machine (items_view l.workflows) ≡ is_named_among l.machine (items_view (drop l.workflow-index l.workflows))
