use Rattle.std.proofs.Common.{◌≡◌, drop}
use Rattle.asl_json_data.specs.Data.{chain}
use Rattle.asl_json.specs.View.{items_of}
use Rattle.asl_def_schema.specs.Claims.{has_all}
use Rattle.asl_def_judge.proofs.value.has_all.Given as goal

abbrev pub invariant-loop-item : goal.invariant-loop-item
invariant-loop-item l = has_all (chain l.items) ≡ has_all (chain (items_of (drop l.item-index l.item-items)))
