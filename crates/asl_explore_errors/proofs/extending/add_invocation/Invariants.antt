use Rattle.std.proofs.Common.{◌≡◌, ◌++◌, drop}
use Rattle.std.specs.List.{flat_map}
use Rattle.asl_explore_errors.specs.Points.{both}
use Rattle.asl_explore_errors.proofs.extending.add_invocation.Given as goal

abbrev pub invariant-loop-error : goal.invariant-loop-error
invariant-loop-error l = l.out.items ++ flat_map (both l.number l.task.state l.invocation) (drop l.error-index l.task.errors.items) ≡ l.fn.out.items ++ flat_map (both l.number l.task.state l.invocation) l.task.errors.items
