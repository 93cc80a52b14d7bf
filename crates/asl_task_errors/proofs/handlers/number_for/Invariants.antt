use Rattle.std.proofs.Common.{◌≡◌, drop}
use Rattle.asl_json_data.specs.Data.{chain}
use Rattle.asl_json.specs.View.{items_of}
use Rattle.asl_handle.specs.Decisions.{first_for}
use Rattle.asl_task_errors.proofs.handlers.number_for.Given as goal

abbrev pub invariant-loop-number : goal.invariant-loop-number
invariant-loop-number l = first_for l.error 0 (chain (items_of l.handlers)) ≡ first_for l.error l.number (chain (items_of (drop l.number l.handlers)))
