use Rattle.std.proofs.Common.{◌≡◌, ◌++◌, drop}
use Rattle.std.specs.List.{flat_map}
use Rattle.asl_task_errors.specs.View.{all_told}
use Rattle.asl_cli.specs.Ruling.{task_of, tasks_of}
use Rattle.asl_cli.proofs.ruling.tasks_of.Given as goal

-- those so far and those that are left are all
abbrev pub invariant-loop-task : goal.invariant-loop-task
invariant-loop-task l = l.tasks.items ++ flat_map (task_of l.machine) (all_told (drop l.task-index l.task-items)) ≡ tasks_of l.machine
