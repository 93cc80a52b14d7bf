use Rattle.std.proofs.Common.{◌≡◌, ◌++◌, drop}
use Rattle.asl_json_data.specs.Data.{chain}
use Rattle.asl_json.specs.View.{items_of}
use Rattle.asl_task_errors.specs.Candidates.{named_by_all}
use Rattle.asl_task_errors.specs.View.{names_of}
use Rattle.asl_task_errors.proofs.candidates.add_all_named.Given as goal

abbrev pub invariant-loop-handler : goal.invariant-loop-handler
invariant-loop-handler l = names_of l.names.items ++ named_by_all (chain (items_of (drop l.handler-index l.handlers))) ≡ names_of l.fn.names.items ++ named_by_all (chain (items_of l.handlers))
