use Rattle.std.proofs.Common.{◌≡◌, ◌++◌, drop}
use Rattle.std.specs.List.{flat_map}
use Rattle.asl_task_errors.specs.Alike.{handlers_of}
use Rattle.asl_task_errors.specs.View.{levels_of, lists_of}
use Rattle.asl_task_errors.proofs.handlers.handlers_of.Given as goal

abbrev pub invariant-loop-state : goal.invariant-loop-state
invariant-loop-state l = lists_of l.lists.items ++ flat_map handlers_of (levels_of (drop l.state-index l.levels)) ≡ flat_map handlers_of (levels_of l.levels)
