use Rattle.std.proofs.Common.{◌≡◌, ◌++◌}
use Rattle.std.specs.Prelude.{map}
use Rattle.std.specs.Vec.Iter.{into_iter_items}
use Rattle.asl_def_schema.specs.Claims.{step}
use Rattle.asl_def_judge.specs.private.Firsts.{under_step}
use Rattle.asl_lint_faults.proofs.joining.under_name.Given as goal

abbrev pub invariant-loop-fault : goal.invariant-loop-fault
invariant-loop-fault l = l.all.items ++ map (under_step (step l.at l.name)) (into_iter_items l.fault-iterator) ≡ map (under_step (step l.at l.name)) l.fn.faults.items
