use Rattle.std.proofs.Common.{◌≡◌, drop}
use Rattle.asl_task_errors.specs.Alike.{are_alike}
use Rattle.asl_task_errors.specs.View.{lists_of}
use Rattle.asl_task_errors.proofs.alike.are_alike.Given as goal

abbrev pub invariant-loop-handlers : goal.invariant-loop-handlers
invariant-loop-handlers l = are_alike (lists_of l.lists) l.one l.other ≡ are_alike (lists_of (drop l.handlers-index l.lists)) l.one l.other
