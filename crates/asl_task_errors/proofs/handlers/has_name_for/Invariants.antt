use Rattle.std.proofs.Common.{◌≡◌, drop}
use Rattle.asl_json_data.specs.Data.{chain}
use Rattle.asl_json.specs.View.{items_of}
use Rattle.asl_handle.specs.Names.{has_name_for}
use Rattle.asl_task_errors.proofs.handlers.has_name_for.Given as goal

abbrev pub invariant-loop-name : goal.invariant-loop-name
invariant-loop-name l = has_name_for l.error (chain (items_of l.names)) ≡ has_name_for l.error (chain (items_of (drop l.name-index l.names)))
