use Rattle.std.proofs.Common.{◌≡◌, ◌++◌}
use Rattle.std.specs.Prelude.{map}
use Rattle.std.specs.Vec.Iter.{into_iter_items}
use Rattle.asl_lint_messages.specs.States.{further}
use Rattle.asl_lint_messages.proofs.states.under.Given as goal

abbrev pub invariant-loop-state : goal.invariant-loop-state
invariant-loop-state l = l.all.items ++ map (further l.at) (into_iter_items l.state-iterator) ≡ map (further l.at) l.fn.states.items
