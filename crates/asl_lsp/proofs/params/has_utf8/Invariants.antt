use Rattle.std.proofs.Common.{◌≡◌, drop}
use Rattle.asl_json.specs.View.{items_of}
use Rattle.asl_json_data.specs.Data.{chain}
use Rattle.asl_lsp.specs.Params.{has_utf8}
use Rattle.asl_lsp.proofs.params.has_utf8.Given as goal

abbrev pub invariant-loop-kind : goal.invariant-loop-kind
invariant-loop-kind l = has_utf8 (chain (items_of (drop l.kind-index l.kinds))) ≡ has_utf8 (chain (items_of l.kinds))
