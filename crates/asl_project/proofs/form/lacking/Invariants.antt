use Rattle.std.proofs.Common.{◌≡◌, drop}
use Rattle.toml.specs.View.{items_view}
use Rattle.asl_project.specs.Form.{lacking_from}
use Rattle.asl_project.proofs.form.lacking.Given as goal

-- the first is in what is left
abbrev pub invariant-loop-i : goal.invariant-loop-i
invariant-loop-i l = lacking_from 0 (items_view l.workflows) ≡ lacking_from l.i (items_view (drop l.i l.workflows))
