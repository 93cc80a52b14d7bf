use Rattle.std.proofs.Common.{◌≡◌, ◌++◌, drop}
use Rattle.toml.specs.View.{items_view}
use Rattle.asl_project.specs.Spelled.{workflows_in}
use Rattle.asl_project.proofs.spelled.workflows_of.Given as goal

-- those so far and those of what is left are those of all
abbrev pub invariant-loop-value : goal.invariant-loop-value
invariant-loop-value l = l.found.items ++ workflows_in l.file (items_view (drop l.value-index l.values)) ≡ workflows_in l.file (items_view l.values)
