use Rattle.std.proofs.Common.{◌≡◌, ◌++◌, drop}
use Rattle.asl_task_errors.specs.Alike.{apart}
use Rattle.asl_task_errors.specs.View.{lists_of, names_of}
use Rattle.asl_task_errors.proofs.alike.add_all_apart.Given as goal

abbrev pub invariant-loop-error : goal.invariant-loop-error
invariant-loop-error l = l.told.items ++ apart (lists_of l.lists) l.told.items (names_of (drop l.error-index l.errors)) ≡ l.fn.told.items ++ apart (lists_of l.lists) l.fn.told.items (names_of l.errors)
