use Rattle.std.proofs.Common.{◌≡◌, ◌++◌}
use Rattle.std.specs.Prelude.{map}
use Rattle.std.specs.Vec.Iter.{into_iter_items}
use Rattle.asl_def_schema.specs.Claims.{step}
use Rattle.asl_def_schema.specs.States.{further}
use Rattle.asl_lint_faults.proofs.states.under_name.Given as goal

abbrev pub invariant-loop-state : goal.invariant-loop-state
invariant-loop-state l = l.all.items ++ map (further (step l.at l.name)) (into_iter_items l.state-iterator) ≡ map (further (step l.at l.name)) l.fn.names.items
