use Rattle.std.proofs.Common.{◌≡◌, drop}
use Rattle.std.specs.List.{list_any}
use Rattle.asl_task_errors.specs.Alike.{are_alike}
use Rattle.asl_task_errors.specs.View.{lists_of}
use Rattle.asl_task_errors.proofs.alike.is_told.Given as goal

abbrev pub invariant-loop-other : goal.invariant-loop-other
invariant-loop-other l = list_any (are_alike (lists_of l.lists) l.error) l.told ≡ list_any (are_alike (lists_of l.lists) l.error) (drop l.other-index l.told)
