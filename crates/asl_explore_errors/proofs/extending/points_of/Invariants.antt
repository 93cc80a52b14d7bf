use Rattle.std.proofs.Common.{◌≡◌, ◌++◌, drop}
use Rattle.asl_task_errors.specs.View.{all_told}
use Rattle.asl_explore_errors.specs.Points.{points_from}
use Rattle.asl_explore_errors.proofs.extending.points_of.Given as goal

-- those so far and those of the Tasks that are left are all
abbrev pub invariant-loop-number : goal.invariant-loop-number
invariant-loop-number l = l.points.items ++ points_from l.machine l.calls l.number (all_told (drop l.number l.tasks)) ≡ points_from l.machine l.calls 0 (all_told l.tasks)
