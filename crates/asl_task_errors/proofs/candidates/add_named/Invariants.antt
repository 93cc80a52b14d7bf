use Rattle.std.proofs.Common.{◌≡◌, ◌++◌, drop}
use Rattle.asl_json_data.specs.Data.{chain}
use Rattle.asl_json.specs.View.{items_of}
use Rattle.asl_task_errors.specs.Candidates.{named_in}
use Rattle.asl_task_errors.specs.View.{names_of}
use Rattle.asl_task_errors.proofs.candidates.add_named.Given as goal

abbrev pub invariant-loop-value : goal.invariant-loop-value
invariant-loop-value l = names_of l.names.items ++ named_in (chain (items_of (drop l.value-index l.list))) ≡ names_of l.fn.names.items ++ named_in (chain (items_of l.list))
