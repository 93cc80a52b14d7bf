use Rattle.std.proofs.Common.{◌≡◌, None, drop}
use Rattle.asl_json.specs.View.{items_of}
use Rattle.asl_json_data.specs.Data.{chain}
use Rattle.asl_json_rpc.specs.Calls.{seen}
use Rattle.asl_lsp.specs.Members.{last_item}
use Rattle.asl_lsp.proofs.members.last_item.Given as goal

-- the last one of what is left, else the one so far, is that of all
abbrev pub invariant-loop-item : goal.invariant-loop-item
invariant-loop-item l = last_item (seen l.last) (chain (items_of (drop l.item-index l.items))) ≡ last_item None (chain (items_of l.items))
