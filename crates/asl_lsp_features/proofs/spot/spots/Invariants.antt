use Rattle.std.proofs.Common.{◌≡◌, ◌++◌}
use Rattle.std.specs.Vec.Iter.{into_iter_items}
use Rattle.asl_lsp_features.specs.Spots.{spots}
use Rattle.asl_lsp_features.proofs.spot.spots.Given as goal

-- the names so far and those that are left are all
abbrev pub invariant-loop-mention : goal.invariant-loop-mention
invariant-loop-mention l = l.all.items ++ spots (into_iter_items l.mention-iterator) l.rest ≡ spots l.fn.names.items l.nodes
