use Rattle.std.proofs.Common.{◌≡◌, ◌++◌, drop}
use Rattle.std.specs.Prelude.{map}
use Rattle.asl_task_errors.specs.View.{all_told}
use Rattle.asl_explore_errors.specs.Searches.{names_in, with_errors}
use Rattle.asl_explore_errors.proofs.failing.all_with_errors.Given as goal

abbrev pub invariant-loop-task : goal.invariant-loop-task
invariant-loop-task l = all_told l.all.items ++ map (with_errors (names_in l.names)) (all_told (drop l.task-index l.tasks)) ≡ map (with_errors (names_in l.names)) (all_told l.tasks)
