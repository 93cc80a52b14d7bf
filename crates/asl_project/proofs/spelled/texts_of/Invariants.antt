use Rattle.std.proofs.Common.{◌≡◌, ◌++◌, drop}
use Rattle.toml.specs.View.{items_view}
use Rattle.asl_project.specs.Spelled.{texts_of}
use Rattle.asl_project.proofs.spelled.texts_of.Given as goal

-- those so far and those of what is left are those of all
abbrev pub invariant-loop-value : goal.invariant-loop-value
invariant-loop-value l = l.texts.items ++ texts_of (items_view (drop l.value-index l.values)) ≡ texts_of (items_view l.values)
