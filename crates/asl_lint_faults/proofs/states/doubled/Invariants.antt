use Rattle.std.specs.Vec.Iter.{into_iter_items}
use Rattle.asl_lint_faults.proofs.Names.{Continues}
use Rattle.asl_lint_faults.proofs.states.doubled.Given as goal

abbrev pub invariant-loop-state : goal.invariant-loop-state
invariant-loop-state l = Continues l.seen (into_iter_items l.state-iterator) l.fn.names.items l.told.items
