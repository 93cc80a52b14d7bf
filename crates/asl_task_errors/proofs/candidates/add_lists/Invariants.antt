use Rattle.std.proofs.Common.{◌≡◌, ◌++◌, drop}
use Rattle.std.specs.List.{flat_map}
use Rattle.asl_task_errors.specs.Candidates.{named_by_all}
use Rattle.asl_task_errors.specs.View.{lists_of, names_of}
use Rattle.asl_task_errors.proofs.candidates.add_lists.Given as goal

abbrev pub invariant-loop-list : goal.invariant-loop-list
invariant-loop-list l = names_of l.names.items ++ flat_map named_by_all (lists_of (drop l.list-index l.lists)) ≡ names_of l.fn.names.items ++ flat_map named_by_all (lists_of l.lists)
