use Rattle.std.proofs.Common.{◌≡◌, ◌++◌}
use Rattle.asl_task_errors.specs.View.{told}
use Rattle.asl_explore_errors.specs.Points.{at_invocations}
use Rattle.asl_explore_errors.proofs.extending.add_invocations.Given as goal

abbrev pub invariant-loop-invocation : goal.invariant-loop-invocation
invariant-loop-invocation l = l.out.items ≡ l.fn.out.items ++ at_invocations l.number (told l.task) l.invocation
