use Rattle.std.proofs.Common.{◌≡◌, drop}
use Rattle.toml.specs.View.{items_view}
use Rattle.asl_project.specs.Form.{has_same_machine}
use Rattle.asl_project.proofs.same.has_same_machine.Given as goal

-- what is left decides
abbrev pub invariant-loop-i : goal.invariant-loop-i
invariant-loop-i l = has_same_machine (items_view l.workflows) ≡ has_same_machine (items_view (drop l.i l.workflows))
