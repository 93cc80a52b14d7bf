use Rattle.std.proofs.Common.{◌≡◌, ◌++◌, drop}
use Rattle.std.specs.List.{flat_map}
use Rattle.asl_task_errors.specs.View.{all_told}
use Rattle.asl_explore_errors.specs.Under.{named_task}
use Rattle.asl_explore_errors.proofs.under.named_tasks.Given as goal

-- behind the names so far stand those of the Tasks that are left
abbrev pub invariant-loop-task : goal.invariant-loop-task
invariant-loop-task l =
    l.names.items ++ flat_map (named_task l.case) (all_told (drop l.task-index l.tasks))
    ≡ flat_map (named_task l.case) (all_told l.tasks)
