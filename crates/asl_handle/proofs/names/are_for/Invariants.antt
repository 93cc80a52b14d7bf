use Rattle.std.proofs.Common.{◌≡◌, drop}
use Rattle.std.specs.Prelude.{map}
use Rattle.asl_json_data.specs.Data.{text, chain}
use Rattle.asl_handle.specs.Names.{has_name_for}
use Rattle.asl_handle.proofs.names.are_for.Given as goal

abbrev pub invariant-loop-name : goal.invariant-loop-name
invariant-loop-name l = has_name_for l.error (chain (map text l.name-items)) ≡ has_name_for l.error (chain (map text (drop l.name-index l.name-items)))
